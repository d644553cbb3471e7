use Rattle.memory.proofs.SameLemmas.{words_tell}
use Rattle.memory.proofs.same.same_word.Goals as goal

pub returns : goal.returns
returns c = words_tell c.args.one.now c.args.other.now c.args.at c.requires.one c.requires.other
