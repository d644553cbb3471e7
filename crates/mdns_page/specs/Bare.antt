-- What a page has apart from names.
use Rattle.std.specs.Prelude.{ℕ, ◌==◌, if◌then◌else◌, Bool, true, false, Option, None, Some, List, [], ◌∷◌, map}
use Rattle.std.specs.List.{filter_map}
use Rattle.mdns_message.specs.{Parts.{address_of}, TextData.{strings_of}, declared.parts.Address.{Address}}
use Rattle.mdns_join.specs.declared.latest.Latest.{Latest}
use Rattle.mdns_lives.specs.declared.{life.Life.{Life}, seconds_heard.SecondHeard.{SecondHeard}}
use Rattle.mdns_browse.specs.{declared.instance.Server.{Server}, Services.{GivenRow, InstanceRow, instance_row_in}}
use Rattle.mdns_capture.specs.declared.savefile.Ending.{Ending}
use Rattle.mdns_survey.specs.declared.reading.Span.{Span}
use Rattle.mdns_page.specs.{Captures.{Facts}, Group.{grouped}, Lead.{Ended}, LiveSection.{type_of}, Timeline.{Row, owner_of}}
use Rattle.mdns_page.specs.declared.captures.CaptureCounts.{CaptureCounts}

-- text of the network isn't written at all
abbrev pub unsaid : List ℕ → List ℕ
unsaid text = []

-- ---- captures

-- all but the name of the listener
abbrev pub bare_capture : Facts → CaptureCounts × Ending × Option Span
bare_capture capture = (capture.counts, capture.ending, capture.span)

-- all but the name of the file
abbrev pub bare_file : Ended → Ending
bare_file file = file.ending

-- ---- rows of records

-- of the record its address, if it has one
abbrev pub BareRow : Type 0
BareRow = Option Address × List Life × List (List Life) × ℕ × List (List SecondHeard)

-- all but the names in the record
abbrev pub bare_row : Row → BareRow
bare_row row =
    (address_of row.last.resource.body, row.lives, row.servers, row.capture_count, row.heard)

-- the same of rows in groups by type
abbrev pub bare_groups : List Row → List (List BareRow)
bare_groups rows = map (map bare_row) (grouped owner_of rows)

-- ---- what was live

-- when an instance ends; nothing if it has said goodbye
abbrev pub bare_end : GivenRow → Option ℕ
bare_end given = if given.last.ttl == 0 then None else Some given.end

-- all but the name of a server
abbrev pub bare_server : Server → ℕ × ℕ × ℕ × List (Option Address)
bare_server server =
    (server.priority, server.weight, server.port, map address_of server.addresses)

-- some string isn't empty
abbrev pub is_some_filled : List (List ℕ) → Bool
is_some_filled [] = false
is_some_filled ([] ∷ strings) = is_some_filled strings
is_some_filled ((byte ∷ bytes) ∷ strings) = true

-- a text has a string that isn't empty
abbrev pub bare_text : List ℕ → Bool
bare_text text = is_some_filled (strings_of text)

abbrev pub BareLive : Type 0
BareLive = Option ℕ × Option ℕ × List (ℕ × ℕ × ℕ × List (Option Address)) × List Bool

-- all but the names and texts of an instance
abbrev pub bare_live : InstanceRow → BareLive
bare_live row = (row.given.since, bare_end row.given, map bare_server row.instance.servers, map bare_text row.instance.texts)

-- the same of the instances that records give, in groups by type
abbrev pub bare_group : List Latest → List GivenRow → List BareLive
bare_group lasts given = map bare_live (filter_map (instance_row_in lasts) given)

abbrev pub bare_instances : List Latest → List GivenRow → List (List BareLive)
bare_instances lasts given = map (bare_group lasts) (grouped type_of given)
