-- `judging::reached::parts_in_order` meets its contract: only claims have a number of parts.
use Prim.Native.Nat.{ℕ}
use mathlib.Core.Path.{◌≡◌, refl, sym}
use mathlib.Core.Bool.{Bool, and-true}
use Rattle.format.specs.declared.kinds.Kind.{Kind}
use Rattle.format.specs.declared.kinds.Kind.TheVariants.{Atoms, Rule, Clause, Load, Open, Claim, Defined}
use Rattle.format.specs.Views.{kind_number, same_kind}
use Rattle.judging.specs.declared.reached.Reached.{Reached}
use Rattle.judging.specs.internal.Shapes.{order_of}
use Rattle.judging.proofs.reached.parts_in_order.Goals as goal

-- the kinds that the last arm takes
others : (s : Reached) (k : Kind) (parts : ℕ) (rising : Bool) → (k ≡ Claim → ⊥) → rising ≡ order_of s k parts rising
unfolding order_of same_kind kind_number
others s Atoms parts rising o = sym (and-true rising)
others s Rule parts rising o = sym (and-true rising)
others s Clause parts rising o = sym (and-true rising)
others s Load parts rising o = sym (and-true rising)
others s Open parts rising o = sym (and-true rising)
others s Claim parts rising o = absurd (o refl)
others s Defined parts rising o = sym (and-true rising)

pub returns-in-Claim : goal.returns-in-Claim
unfolding kind_number order_of same_kind
returns-in-Claim c = rw c.in-Claim.is

pub returns-in_default : goal.returns-in_default
returns-in_default c = others _ c.args.kind _ _ c.in_default.not-Claim
