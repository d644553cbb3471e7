use Rattle.std.proofs.Common.{◌++◌, ◌∙◌, ap, List}
use Rattle.std.specs.String.{string_bytes}
use Rattle.mdns_message.specs.Parts.{content_of}
use Rattle.mdns_lives.specs.declared.{life.Life.{Life}, seconds_heard.SecondHeard.{SecondHeard}}
use Rattle.mdns_page.specs.{HeardWords.{heard_text}, Html.{isolated}, LifeWords.{lives_words}, RowPicture.{picture}}
use Rattle.mdns_page.specs.Timeline.{content_name, counted_lent, owner_of, row_text}
use Rattle.mdns_page.proofs.PartLemmas.{parts7}
use Rattle.mdns_page.proofs.row_text.push_heard_row.Goals as goal

pub returns : goal.returns
unfolding row_text
returns c =
    let look = c.args.look in
    let row = counted_lent c.args.row.now in
    let is = c.as_slice-lives.ensures.value in
    parts7 _ _ _ _ _ _ _ _ _ _ _ _ _ _ _ c.in_ok-push_str.ensures.bytes
    (c.in_ok-push_name.ensures
    ∙ ap (λ (h : List (List SecondHeard)). string_bytes c.push_str.new.self
    ++ (content_name isolated c.args.part (owner_of row) (content_of row.last.resource.body) ++ heard_text row.capture_count h)) c.requires)
    c.in_ok-push_str-2.ensures.bytes
    (c.in_ok-push_picture.ensures
    ∙ (λ i. string_bytes c.push_str-2.new.self ++ picture look (is i) row.servers (c.requires i)))
    c.in_ok-push_str-3.ensures.bytes
    (c.in_ok-push_lives_words.ensures ∙ ap (λ (l : List Life). string_bytes c.push_str-3.new.self ++ lives_words look.axis l) is)
    c.in_ok-push_str-4.ensures.bytes
