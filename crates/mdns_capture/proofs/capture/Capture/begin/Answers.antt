use Rattle.std.proofs.{Common.{arith, refl, rules}, lemmas.Result.{err_from_is_err_and}}
use Rattle.mdns_capture.proofs.CaptureLemmas.{Begins-begun}
use Rattle.mdns_capture.proofs.capture.Capture.begin.Goals as goal

pub returns-in_err-head-clause-answers : goal.returns-in_err-head-clause-answers
returns-in_err-head-clause-answers g c = grind (arith, err_from_is_err_and)

pub returns-clause-begins : goal.returns-clause-begins
returns-clause-begins g c =
    let ok = c.in_ok-head.ensures.ok in
    Begins-begun _ _ _ ok.0 _ ok.1 ok.2 ok.3 c.read_file_header.ensures.stays (c.in_ok-head.ensures.unfailed (search rules)) refl refl refl
