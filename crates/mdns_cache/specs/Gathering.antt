-- The contents of a `Gathering`: its entries, joined key by key.
use Rattle.std.specs.Prelude.{ℕ, List, Option}
use Rattle.mdns_capture.specs.declared.moment.Moment.{Moment}
use Rattle.mdns_message.specs.{declared.key.Key.{Key}, RecordSet.{RecordSet}, Resource.{key_cmp, set_key_cmp}}
use Rattle.join_map.specs.Entries.{AllFit, gathered}
use Rattle.mdns_join.specs.{declared.latest.Latest.{Latest}, Latest.{IsKeyed, later}, Kept.{kept_union}}
use Rattle.mdns_cache.specs.Contents.{Contents, contents, IsContents}

-- the contents of entries in any order
abbrev pub contents_gathered : List (Key × Latest) → List (RecordSet × List ℕ) → Option Moment → Contents
contents_gathered lasts flushes newest = contents (gathered key_cmp later lasts) (gathered set_key_cmp kept_union flushes) newest

-- the entries are those of contents, and each last hearing is under the key of its record
pub record IsGathering (lasts : List (Key × Latest)) (flushes : List (RecordSet × List ℕ)) (newest : Option Moment) : Type 0 where
  pub contents : IsContents (contents_gathered lasts flushes newest)
  pub keyed : AllFit IsKeyed lasts
