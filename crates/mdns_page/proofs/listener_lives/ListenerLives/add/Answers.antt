use Rattle.std.proofs.Common.{◌∙◌, ap, refl, suc, sym, ℕ, subst}
use Rattle.std.specs.Prelude.{min}
use Rattle.mdns_listeners.specs.Listeners.{listener_at}
use Rattle.mdns_page.specs.{ByListener.{AddsAt}, declared.listener_lives.ListenerLives.{ListenerLives}}
use Rattle.mdns_page.proofs.ByListenerLemmas.{adds-file}
use Rattle.mdns_page.proofs.listener_lives.ListenerLives.add.Goals as goal

pub returns : goal.returns
returns c = λ heard recorded.
    let old = c.args.self.now in
    let new : ListenerLives = record {
      captures = c.add_at.new.captures;
      joined = c.join_unless_one.new.joined;
      by_file = old.by_file;
      place = c.next_place-self.result;
    } in
    let at = c.listener_at-listener.ensures ∙ (λ i. listener_at (c.as_slice.ensures.value i) old.place) in
    adds-file old new c.in_ok-lives.lives heard (c.in_ok-lives.ensures heard recorded) refl
    (c.next_place-self.ensures ∙ ap (λ (n : ℕ). min (suc old.place) n) (c.len-2.ensures ∙ old.by_file.ok.0))
    (λ many. c.in_ok-join_unless_one.ensures (λ e. many (sym old.captures.ok.0 ∙ sym c.len.ensures ∙ e)))
    (subst (λ (l : ℕ). AddsAt l old.captures.items c.in_ok-lives.lives c.add_at.new.captures.items) at c.in_ok-add_at.ensures)
