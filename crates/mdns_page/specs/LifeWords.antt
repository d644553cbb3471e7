-- Lives in words.
use Rattle.std.specs.Prelude.{ℕ, true, false, ◌-◌, ◌==◌, if◌then◌else◌, List, [], ◌∷◌, ◌++◌, codes, drop, length}
use Rattle.std.specs.List.{flat_map}
use Rattle.mdns_lives.specs.declared.life.Life.{Life}
use Rattle.mdns_page.specs.{Axis.{is_same_date, short_text}, BarTitles.{end_words}, Counts.{commas}, Picture.{goes_on}, declared.axis.Axis.{Axis}}
use Rattle.mdns_page.specs.declared.axis.Dates.TheVariants.{Omitted}

-- a life: from when until when, and why it ended, without the date if that is the one of its begin, or that it goes on
unfoldable pub life_words : Axis → Life → List ℕ
life_words axis life =
    codes "<p>" ++ short_text axis.dates life.from.nanos ++ codes " &#8211; "
    ++ (if goes_on axis life then codes "<b>" ++ end_words true life ++ codes "</b>"
    else short_text (if is_same_date life.from.nanos life.until then Omitted else axis.dates) life.until
    ++ 32 ∷ end_words false life) ++ codes "</p>"

-- the last three lives, and how many were before, if there are any
abbrev pub lives_words : Axis → List Life → List ℕ
lives_words axis lives =
    let earlier = length lives - 3 in (if earlier == 0 then [] else codes "<small>" ++ commas earlier ++ codes " earlier</small>")
    ++ flat_map (life_words axis) (drop earlier lives)
