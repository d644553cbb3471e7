-- Instances by the live records that give them, as these are lent.
use Rattle.std.specs.{Prelude.{ℕ, List, map, Option, option_map}, List.{filter, filter_map}}
use Rattle.mdns_capture.specs.declared.moment.Moment.{Moment}
use Rattle.mdns_join.specs.declared.latest.Latest.{Latest}
use Rattle.mdns_cache.specs.LentRecords.{last_lent}
use Rattle.mdns_browse.specs.{About.{keeps_instance}, declared.about.Subject.{Subject}, declared.sheet.InstancePointer.{InstancePointer}}
use Rattle.mdns_browse.specs.Services.{GivenRow, InstanceRow, instance_row_in}

-- a moment in nanoseconds, where there is one
abbrev pub nanos_in : Option Moment → Option ℕ
nanos_in since = option_map (λ (moment : Moment). moment.nanos) since

-- the value of a lent record that gives an instance
abbrev pub given_lent : InstancePointer → GivenRow
given_lent given = record { last = last_lent given.row.last; end = given.row.end; since = nanos_in given.since }

-- of records that point to instances those whose instance is about one of the subjects
abbrev pub kept_given : List Subject → List Latest → List GivenRow → List GivenRow
kept_given about rows given =
    map (λ (row : InstanceRow). row.given) (filter (λ row. keeps_instance about row.instance) (filter_map (instance_row_in rows) given))
