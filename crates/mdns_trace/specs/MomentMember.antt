-- A member of an object that is a moment.
use Rattle.std.specs.Prelude.{ℕ, List}
use Rattle.mdns_browse.specs.Json.{json_member, json_string}
use Rattle.mdns_capture.specs.Text.{moment_text}

-- a string, so that no reader rounds it
unfoldable pub moment_member : List ℕ → ℕ → List ℕ
moment_member name nanos = json_member name (json_string (moment_text nanos))
