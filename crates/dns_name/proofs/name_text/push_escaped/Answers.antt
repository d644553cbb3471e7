use Rattle.std.proofs.{Common.{arith, ap}, lemmas.Result.{err_from_is_err_and}}
use Rattle.dns_name.specs.Name.{bytes_text}
use Rattle.dns_name.proofs.FrontLemmas.{Reaches-more, stops-at, drop_one}
use Rattle.dns_name.proofs.name_text.push_escaped.Goals as goal

pub returns-in_err-push_byte-clause-err : goal.returns-in_err-push_byte-clause-err
returns-in_err-push_byte-clause-err c =
    let p = err_from_is_err_and c.from_residual.result c.from_residual.ensures.1 in
    let split = ap (bytes_text c.args.dots) (drop_one c.args.bytes.now c.loop-byte.byte-index c.loop-byte-test.true) in
    rw p.1 (stops-at _ _ _ _ _ _ _ c.loop-byte.invariant split c.in_err-push_byte.ensures.err)

pub loop-byte-preserved : goal.loop-byte-preserved
loop-byte-preserved c = grind (arith, drop_one, Reaches-more)
