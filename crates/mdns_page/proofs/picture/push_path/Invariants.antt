use Rattle.std.proofs.Common.{◌≡◌, ◌++◌, drop, None}
use Rattle.std.specs.{List.{filter_map}, String.{string_bytes}}
use Rattle.mdns_page.specs.Picture.{mark_of, path_rest}
use Rattle.mdns_page.proofs.picture.push_path.Given as goal

-- what was written of the path, with the rest of it, is the path
abbrev pub invariant-loop-life : goal.invariant-loop-life
invariant-loop-life l =
    string_bytes l.to ++ path_rest l.stroke l.before (filter_map (mark_of l.axis l.stroke) (drop l.life-index l.lives))
    ≡ string_bytes l.fn.to ++ path_rest l.stroke None (filter_map (mark_of l.axis l.stroke) l.lives)
