use Rattle.std.proofs.Common.{arith, ◌≡◌, List, ℕ, true, ◌∷◌, ◌++◌, ap, append_assoc, sym, string_bytes}
use Rattle.std.proofs.lemmas.Result.{IfOk-equal}
use Rattle.dns_name.specs.Name.{labels_of}
use Rattle.dns_name.proofs.FormLemmas.{IsForm-after, IsForm-last, labels_of-after}
use Rattle.people_text.specs.Shown.{bytes_shown, dotted, name_shown}
use Rattle.people_text.proofs.ShownLemmas.{further}
use Rattle.people_text.proofs.shown_names.push_shown_name.Goals as goal

pub push_further-requires : goal.push_further-requires
push_further-requires c = IsForm-after _ _ _ c.in-Some.ensures.label c.wire.ensures.form.form

-- the first label, and the others after it
whole : (old mid bytes label : List ℕ) (after : List (List ℕ)) → mid ≡ old ++ bytes_shown true label → labels_of bytes ≡ label ∷ after
    → mid ++ further after ≡ old ++ name_shown bytes
whole old mid bytes label after first are =
    rw (first, append_assoc) (ap (λ labels. old ++ dotted (bytes_shown true) labels) (sym are))

pub returns-in_ok-push_bytes-in-Some : goal.returns-in_ok-push_bytes-in-Some
returns-in_ok-push_bytes-in-Some c = grind (arith, labels_of-after, whole, string_bytes, IfOk-equal)

pub returns-in-None : goal.returns-in-None
returns-in-None c = grind (arith, IsForm-last _ c.in-None.ensures.none c.wire.ensures.form.form, IfOk-equal, string_bytes c.args.to.now)
