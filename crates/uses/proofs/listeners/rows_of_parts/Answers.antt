use Rattle.uses.proofs.listeners.rows_of_parts.Goals as goal

pub returns-clause-joined : goal.returns-clause-joined
returns-clause-joined c = c.parts_tell_the_whole.ensures.both _ _ _ _ c.in_ok-rows.ensures.heard c.in_ok-more.ensures.heard

pub returns-clause-whole : goal.returns-clause-whole
returns-clause-whole c whole heard =
    c.one_list_of_rows.ensures _ _ _ heard
    (c.parts_tell_the_whole.ensures.both _ _ _ _ c.in_ok-rows.ensures.heard c.in_ok-more.ensures.heard)
