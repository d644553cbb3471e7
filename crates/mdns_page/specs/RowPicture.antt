-- The picture of a row.
use Rattle.std.specs.{Prelude.{ℕ, ◌==◌, if◌then◌else◌, List, [], ◌++◌, codes}, Fmt.{decimal}, List.{flat_map}}
use Rattle.mdns_lives.specs.declared.life.{Life.{Life}, EndReason.TheVariants.{Expired, Goodbye, Flushed}}
use Rattle.mdns_lives.specs.declared.seconds_heard.SecondHeard.{SecondHeard}
use Rattle.mdns_page.specs.{Captures.{each_from}, Lanes.{height, lane_text}, Picture.{bars, mark_of, path}, declared.row_picture.Look.{Look}}
use Rattle.mdns_page.specs.declared.picture.Stroke.TheVariants.{Bar, Server, Pin, Head}

-- the picture of some lives, in order of time: a bar for each, those of servers, for each that ended a pin that tells why, and in
-- which seconds each capture heard the record
abbrev pub picture : Look → List Life → (servers : List (List Life)) → List (List SecondHeard) → List ℕ
picture look lives servers heard =
    let axis = look.axis in
    codes "<svg viewBox=\"0 0 1000 " ++ decimal (height look.lanes)
    ++ codes "\" preserveAspectRatio=\"none\" aria-hidden=\"true\"><use href=\"#g\"/>" ++ bars axis look.titled Bar lives
    ++ flat_map (bars axis look.titled Server) servers ++ path (mark_of axis) (Pin Goodbye) lives
    ++ path (mark_of axis) (Head Goodbye) lives ++ path (mark_of axis) (Pin Expired) lives
    ++ path (mark_of axis) (Pin Flushed) lives ++ path (mark_of axis) (Head Flushed) lives
    ++ (if look.lanes == 0 then [] else each_from (lane_text axis look.lanes) 0 heard) ++ codes "</svg>"
