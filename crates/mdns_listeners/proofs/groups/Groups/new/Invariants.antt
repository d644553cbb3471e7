use Rattle.std.proofs.Common.{◌≡◌, ◌<◌, length, map, string_bytes, take}
use Rattle.std.specs.List.{All}
use Rattle.mdns_listeners.specs.Groups.{HasBegun, listener_positions}
use Rattle.mdns_listeners.proofs.groups.Groups.new.Given as goal

-- the listeners of the files so far
abbrev pub invariant-loop-file : goal.invariant-loop-file
invariant-loop-file l =
    let prefixes = map string_bytes l.prefixes in
    let files = map string_bytes (take l.file-index l.files) in
    HasBegun prefixes files (map string_bytes l.names.items) l.begun.items × (l.by_file.items ≡ listener_positions prefixes files)
    × All (λ listener. listener < length l.names.items) l.by_file.items
