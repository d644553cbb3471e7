-- The whole page.
use Rattle.std.specs.{Prelude.{ℕ, ◌==◌, nat_lt, Bool, if◌then◌else◌, List, [], ◌++◌, codes, length, map}, Fmt.{decimal}, List.{flat_map}}
use Rattle.people_text.specs.MomentText.{date_text}
use Rattle.mdns_lives.specs.declared.life.Life.{Life}
use Rattle.mdns_browse.specs.declared.about.Subject.{Subject}
use Rattle.mdns_page.specs.{Axis.{is_same_date}, Captures.{Comparison, Facts, captures_text, comparison_lent, facts_lent}}
use Rattle.mdns_page.specs.Lead.{Ended, about_line, clock_warnings, ended_lent, ending_warning, known_lent, live_line, lost_warning}
use Rattle.mdns_page.specs.Lead.{window_line}
use Rattle.mdns_page.specs.{Lanes.{height}, Ticks.{symbols_text}, Timeline.{Row, counted_lent, is_large, timeline}}
use Rattle.mdns_page.specs.declared.{axis.Axis.{Axis}, document.PageParts.{PageParts}, style.TheConstants.{STYLE}}

-- ---- the head

-- the title, with the day or the two days of the axis: `2026-11-22`, `2026-11-22 to 2026-11-24`
unfoldable pub dated_title : Axis → List ℕ
dated_title axis =
    codes "Multicast DNS, " ++ date_text axis.start.nanos
    ++ (if is_same_date axis.start.nanos axis.end.nanos then [] else codes " to " ++ date_text axis.end.nanos)

-- the same; without a day where there is no moment
abbrev pub title : Axis → List ℕ
title axis = if axis.end.nanos == 0 then codes "Multicast DNS" else dated_title axis

-- the head of a document in UTF-8 that runs no script and loads nothing, with the height of the pictures of rows; then what the
-- pictures share, and the heading
unfoldable pub head : Axis → (lanes : ℕ) → List Facts → List ℕ
head axis lanes captures =
    codes "<!doctype html>\n<html lang=\"en\"><head><meta charset=\"utf-8\">\n"
    ++ codes "<meta http-equiv=\"Content-Security-Policy\" content=\"default-src 'none'; style-src 'unsafe-inline'\">\n"
    ++ codes "<meta name=\"viewport\" content=\"width=device-width\">\n<title>" ++ title axis ++ codes "</title>\n<style>\n"
    ++ STYLE.now ++ codes "li>svg{height:" ++ decimal (height lanes) ++ codes "px}\n</style></head>\n<body>\n"
    ++ symbols_text axis lanes captures ++ codes "<main>\n<h1>" ++ title axis ++ codes "</h1>\n"

-- ---- the whole

-- what a page shows: captures, their files, how they compare, how many of their packets lost what they said, the rows of all instances
-- heard that are about the subjects, those of addresses and of names that aren't one label and the type, all records that are kept,
-- what was live at the end, and the packets that told nothing
pub record Shown : Type 0 where
  pub axis : Axis
  pub about : List Subject
  pub captures : List Facts
  pub files : List Ended
  pub comparison : Comparison
  pub lost : ℕ
  pub rows : List Row
  pub addresses : List Row
  pub names : List Row
  pub known : List (Bool × List Life)
  pub live : List ℕ
  pub skipped : List ℕ

abbrev pub parts_lent : PageParts → Shown
parts_lent parts = record {
  axis = parts.axis;
  about = parts.about.now;
  captures = map facts_lent parts.captures.now;
  files = map ended_lent parts.files.now;
  comparison = comparison_lent parts.comparison;
  lost = parts.lost;
  rows = map counted_lent parts.rows.now;
  addresses = map counted_lent parts.addresses.now;
  names = map counted_lent parts.names.now;
  known = map known_lent parts.kept.now;
  live = parts.live.now;
  skipped = parts.skipped.now;
}

-- how many instances were live at the end of the captures, and what the captures lack
abbrev pub lead : (List ℕ → List ℕ) → Shown → List ℕ
lead say shown =
    live_line shown.axis shown.known ++ window_line shown.axis.window ++ about_line say shown.about ++ flat_map (ending_warning say) shown.files
    ++ clock_warnings say shown.captures shown.comparison.pairs ++ lost_warning shown.lost

-- the page, with links to its sections; pictures have a lane for each capture, or one for all where there are many, and none on a
-- large page; `say` is how text of the network is written
abbrev pub page : (List ℕ → List ℕ) → Shown → List ℕ
page say shown =
    let axis = shown.axis in let count = length shown.captures in
    let lanes = if is_large (length shown.rows) then 0 else (if nat_lt 4 count then 1 else count) in
    head axis lanes shown.captures ++ lead say shown ++ (codes "<nav><a href=\"#captures\">Captures</a><a href=\"#timeline\">Timeline</a>"
    ++ codes "<a href=\"#live\">What was live</a><a href=\"#nothing\">Skipped packets</a></nav>\n")
    ++ captures_text say axis shown.captures shown.comparison ++ timeline say axis lanes shown.rows shown.addresses shown.names ++ shown.live
    ++ shown.skipped ++ codes "</main></body></html>\n"
