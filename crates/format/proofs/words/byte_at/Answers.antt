-- `format::words::byte_at` meets its contract: the byte at an offset begins the bytes from there on.
use mathlib.Core.Path.{refl, ◌∙◌}
use native.Mathlib.Omega.{arith}
use Rattle.format.proofs.KindLaws.{byte_told}
use Rattle.format.proofs.words.byte_at.Goals as goal

pub returns : goal.returns
returns c = let found = c.get.ensures.lookup in c.eq.ensures ∙ byte_told _ _ _ c.get.result _ refl found.0 (found.4 (omega arith) 0)
