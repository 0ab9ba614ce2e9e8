-- `rounds::rounds::decide_atom` meets its contract: each way in which the code decides an atom, or leaves it.
use Rattle.rounds.proofs.RoundLaws.{atom_held, atom_fires, atom_unfounded, atom_left}
use Rattle.rounds.proofs.rounds.decide_atom.Goals as goal

pub returns-then-values-atom-lt2 : goal.returns-then-values-atom-lt2
returns-then-values-atom-lt2 c = atom_held c.requires.0 c.if-values-atom-lt2.true

pub returns-then-firing-atom-eq1 : goal.returns-then-firing-atom-eq1
returns-then-firing-atom-eq1 c = atom_fires c.requires.0 c.if-values-atom-lt2.false c.if-firing-atom-eq1.true

pub returns-then-founded-atom-ne1 : goal.returns-then-founded-atom-ne1
returns-then-founded-atom-ne1 c = atom_unfounded c.requires.0 c.if-values-atom-lt2.false c.if-firing-atom-eq1.false c.if-founded-atom-ne1.true

pub returns : goal.returns
returns c = atom_left c.requires.0 c.if-values-atom-lt2.false c.if-firing-atom-eq1.false c.if-founded-atom-ne1.false
