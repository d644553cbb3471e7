use Rattle.std.proofs.{Common.{◌∙◌, Err, ap, inr}, lemmas.Result.{err_from_is_err_and}}
use Rattle.command_line.proofs.scope.form_and_window.Goals as goal

pub returns-in_err-window-clause-err : goal.returns-in_err-window-clause-err
returns-in_err-window-clause-err c =
    let p = err_from_is_err_and c.from_residual-in_err-window.result c.from_residual-in_err-window.ensures.1 in
    rw (p.1 ∙ ap Err p.2) (inr c.in_err-window.ensures.err)
