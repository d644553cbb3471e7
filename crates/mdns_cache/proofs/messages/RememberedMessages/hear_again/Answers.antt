use Rattle.std.proofs.Common.{◌≡◌, ◌<◌, ◌∙◌, suc, [], ◌∷◌, length, get_or, set, take, drop, ap, sym, rules}
use Rattle.std.proofs.lemmas.List.{set_split, set-get_or}
use Rattle.mdns_join.specs.Kept.{kept_union}
use Rattle.mdns_cache.specs.Repeats.{remembered}
use Rattle.mdns_cache.proofs.messages.RememberedMessages.hear_again.Goals as goal

pub returns-clause-again : goal.returns-clause-again
returns-clause-again c =
    let ms = c.self.inside.messages.items in
    let i = c.in_ok-place.place in
    let held = c.in_ok-held.held.now in
    let next = remembered held.bytes (kept_union held.moments (c.args.moment.nanos ∷ [])) in
    let within : i < length ms = search rules in
    let is : held ≡ get_or ms i held = search rules in
    let was : c.args.self.now ≡ ms = search rules in
    let same : held.bytes ≡ c.args.message.now = search rules in
    let joined : c.add.new.self ≡ next = search rules in
    rw (← same) (record {
      front = take i ms;
      moments = held.moments;
      back = drop (suc i) ms;
      was = was ∙ sym (ap (set ms i) is ∙ set-get_or ms i held) ∙ set_split ms i held within;
      now = ap (set ms i) joined ∙ set_split ms i next within;
    })
