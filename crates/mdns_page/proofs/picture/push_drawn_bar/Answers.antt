use Rattle.std.proofs.Common.{◌∙◌, ◌++◌, ap, Bool, List, ℕ}
use Rattle.std.specs.String.{string_bytes}
use Rattle.mdns_page.specs.{Picture.{mark_text, drawn_bar}, BarTitles.{life_title}, declared.picture.StrokeSpan.{StrokeSpan}}
use Rattle.mdns_page.proofs.PartLemmas.{parts6}
use Rattle.mdns_page.proofs.picture.push_drawn_bar.Goals as goal

pub returns : goal.returns
unfolding drawn_bar
returns c =
    let stroke = c.args.stroke in
    parts6 _ _ _ _ _ _ _ _ _ _ _ _ _ c.in_ok-push_path_begin.ensures
    (c.in_ok-push_mark.ensures
    ∙ ap (λ (mark : StrokeSpan). string_bytes c.push_path_begin.new.to ++ mark_text stroke mark) c.bar_mark.ensures)
    c.in_ok-push_str.ensures.bytes
    (c.in_ok-push_str-2.ensures.bytes ∙ ap (λ (word : List ℕ). string_bytes c.push_str.new.self ++ word) c.title_word.ensures)
    (c.in_ok-push_life_title.ensures
    ∙ ap (λ (on : Bool). string_bytes c.push_str-2.new.self ++ life_title on c.args.life.now) c.goes_on.ensures)
    c.in_ok-push_str-3.ensures.bytes
