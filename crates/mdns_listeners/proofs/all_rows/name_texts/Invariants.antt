use Rattle.std.proofs.Common.{◌≡◌, take, map, string_bytes}
use Rattle.mdns_message.specs.TextData.{string_text}
use Rattle.mdns_listeners.proofs.all_rows.name_texts.Given as goal

abbrev pub invariant-loop-file : goal.invariant-loop-file
invariant-loop-file l =
    map string_bytes l.texts.items ≡ map string_text (map string_bytes (take l.file-index l.listener_names))
