use Rattle.std.proofs.Common.{arith, ◌≡◌, ℕ, List, ◌++◌, ap, append_assoc, string_bytes}
use Rattle.std.proofs.lemmas.{List.{take_rest}, Result.{IfOk-equal}}
use Rattle.people_text.proofs.ShownLemmas.{plain-front}
use Rattle.people_text.proofs.shown.push_bytes.Goals as goal

pub push_utf8-requires : goal.push_utf8-requires
push_utf8-requires c = rw c.plain_len-len.ensures.len (plain-front c.args.dots c.args.bytes.now).0

whole : (old mid front rest text : List ℕ) → mid ≡ old ++ front → front ++ rest ≡ text → mid ++ rest ≡ old ++ text
whole old mid front rest text first is = rw (first, append_assoc) (ap (λ more. old ++ more) is)

pub returns : goal.returns
returns c = grind (arith, plain-front, IfOk-equal, take_rest, whole, string_bytes)
