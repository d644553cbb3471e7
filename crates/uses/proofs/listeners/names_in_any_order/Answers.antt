use Rattle.uses.proofs.listeners.names_in_any_order.Goals as goal

pub returns-clause-same : goal.returns-clause-same
returns-clause-same c heard more first second same =
    c.one_list_of_names.ensures.same _ heard more _ _ same (c.names_of.ensures heard first) (c.names_of-2.ensures more second)
