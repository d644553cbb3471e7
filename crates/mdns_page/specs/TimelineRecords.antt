-- The records of a page.
use Rattle.std.specs.{Prelude.{◌≡◌, Bool, ◌&&◌, ◌||◌, if◌then◌else◌, is_some, List, [], ◌∷◌, map}, List.{All, filter, list_any}}
use Rattle.mdns_message.specs.{Parts.{address_of, srv_of}, declared.hearing.Hearing.{Hearing}}
use Rattle.mdns_join.specs.declared.latest.Latest.{Latest}
use Rattle.mdns_lives.specs.{Window.{meets}, declared.life.Life.{Life}, declared.window.Window.{Window}}
use Rattle.mdns_browse.specs.{declared.about.Subject.{Subject}, About.{keeps_heard, keeps_record}}
use Rattle.mdns_browse.specs.Services.{body_of, instance_given, name_if, other_given}
use Rattle.mdns_page.specs.declared.timeline_records.{TimelinePart.{TimelinePart}, TimelinePart.TheVariants.{Addresses, Instances, Names}}
use Rattle.mdns_page.specs.{TimelineRows.{IsCounted}, Servers.{servers_of}, Timeline.{Row}}

-- the last hearings in which instances are looked up: those of all records, live or not; none without subjects, where each is kept
abbrev pub looked_up : List Subject → List (Latest × List Life) → List Latest
looked_up [] rows = []
looked_up (subject ∷ about) rows = map (λ (row : Latest × List Life). row.0) rows

-- the record gives an instance that is about one of the subjects by these last hearings
abbrev pub is_drawn : List Subject → List Latest → Latest → Bool
is_drawn about lasts last = is_some (name_if (keeps_heard about lasts) (instance_given last))

-- the page keeps a record that gives an instance about the subjects, one about them that is of an address or points from a service type
-- to a name that isn't one label and the type, and each SRV record, whose lives stand in the row of its instance
abbrev pub is_kept : List Subject → List Latest → Latest → Bool
is_kept about lasts last =
    if is_some (instance_given last) then is_drawn about lasts last
    else (if is_some (address_of (body_of last)) || is_some (other_given last) then keeps_record about last.resource
    else is_some (srv_of (body_of last)))

-- of the records that were heard those that the page keeps
abbrev pub kept_of : List Subject → List (Latest × List Life) → List (Latest × List Life)
kept_of about rows = filter (λ row. is_kept about (looked_up about rows) row.0) rows

-- the record has its row in this part of the timeline
abbrev pub is_of : TimelinePart → Latest → Bool
is_of Instances last = is_some (instance_given last)
is_of Addresses last = is_some (address_of (body_of last))
is_of Names last = is_some (other_given last)

-- and was live at a moment of the window
abbrev pub has_row : TimelinePart → Window → Latest × List Life → Bool
has_row part window row = is_of part row.0 && list_any (meets window) row.1

-- The rows are those of this part of the timeline, each with the lives of its name's servers, and with how often each capture heard
-- its record, by the hearings of each; a large page has only those of instances.
pub record AreRows (part : TimelinePart) (window : Window) (large : Bool) (each : List (List Hearing)) (kept : List (Latest × List Life)) (rows : List Row)
    : Type 0 where
  pub are : map (λ (row : Row). (row.last, row.lives)) rows ≡ filter (has_row part window) (if large then [] else kept)
  pub counted : All (IsCounted each) rows
  pub served : All (λ (row : Row). row.servers ≡ servers_of kept (body_of row.last)) rows
