use Rattle.std.proofs.{Common.{arith, ap, append-nil, sym, ◌∙◌, ◌++◌, string_bytes}, lemmas.Result.{IfOk-equal}}
use Rattle.dns_name.proofs.FormLemmas.{IsForm-last, labels_of-after}
use Rattle.people_text.specs.Shown.{bytes_shown}
use Rattle.mdns_browse.specs.RecordShown.{shown_instance}
use Rattle.mdns_browse.proofs.record_shown.push_shown_instance.Goals as goal

pub returns-in-Some : goal.returns-in-Some
unfolding shown_instance
returns-in-Some c = grind (arith, labels_of-after _ _ _ c.in-Some.ensures.label, IfOk-equal, string_bytes c.args.to.now)

pub returns-in-None : goal.returns-in-None
unfolding shown_instance bytes_shown
returns-in-None c =
    let last = IsForm-last _ c.in-None.ensures.none c.wire.ensures.form.form in
    rw (← c.wire.ensures.bytes)
    (sym (append-nil (string_bytes c.args.to.now)) ∙ ap (λ bytes. string_bytes c.args.to.now ++ shown_instance bytes) (sym last))
