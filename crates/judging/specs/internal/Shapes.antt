-- The shape of a form: what judging needs of it. A shape is judged as its form is.
use Rattle.std.specs.Prelude.{ℕ, ◌≡◌, Bool, true, cond, ◌&&◌, ◌||◌, List, map, eqb, length, Result, Ok, Err}
use Rattle.tables.specs.declared.Fault.{Fault}
use Rattle.tables.specs.declared.Fault.TheVariants.{OutsideLimits, OutOfOrder, NoSpace}
use Rattle.format.specs.declared.kinds.Kind.{Kind}
use Rattle.format.specs.declared.kinds.Kind.TheVariants.{Rule, Clause, Load, Open, Claim, Defined}
use Rattle.format.specs.Forms.{Form}
use Rattle.format.specs.Views.{View, view_of, same_kind}
use Rattle.numerals.specs.internal.Offsets.{capped}
use Rattle.judging.specs.declared.reached.Reached.{Reached}
use Rattle.judging.specs.declared.reached.Space.{Space}
use Rattle.judging.specs.declared.reached.Shape.{Shape}
use Rattle.judging.specs.declared.reached.Counted.{Counted}
use Rattle.judging.specs.States.{advanced, counts_within, fits}
use Rattle.judging.specs.Judging.{rises_from, numbers_within, may_follow}

-- Numbers as code has them stop growing beyond every limit; where all are within their limits they rise exactly if the atoms do.
unfoldable pub capped_rise : List ℕ → Bool
capped_rise atoms = rises_from 0 (map capped atoms)

-- How many parts a form lists, and which list they are, by its kind.
unfoldable pub parts_in : View → ℕ
parts_in v =
    cond (same_kind v.kind Rule || same_kind v.kind Clause) (length v.literals)
    (cond (same_kind v.kind Load) (length v.terms)
    (cond (same_kind v.kind Open || same_kind v.kind Defined) (length v.atoms) (length v.pairs)))

unfoldable pub shape_of : Reached → Form → Shape
shape_of s f =
    let v = view_of f in
    record { kind = v.kind; size = capped v.size; parts = parts_in v; within = numbers_within s f; rising = capped_rise v.atoms }

-- The order of a shape's parts, and a shape judged as its form is.
unfoldable pub order_of : Reached → Kind → ℕ → Bool → Bool
order_of s kind parts rising = rising && cond (same_kind kind Claim) (eqb parts s.size) true

-- The parts of rules and clauses are literals, those of load lines are terms.
unfoldable pub added : Reached → Kind → ℕ → ℕ → Reached
added s kind size parts =
    advanced s kind size (cond (same_kind kind Rule || same_kind kind Clause) parts 0) (cond (same_kind kind Load) parts 0)

unfoldable pub reached_by : Reached → Shape → Reached
reached_by s shape = added s shape.kind shape.size shape.parts

unfoldable pub judge_shape : Space → Reached → Shape → Result Reached Fault
judge_shape space s shape =
    cond (shape.within && counts_within (reached_by s shape))
    (cond (may_follow shape.kind s.phase && order_of s shape.kind shape.parts shape.rising)
    (cond (fits space (reached_by s shape)) (Ok (reached_by s shape)) (Err NoSpace))
    (Err OutOfOrder))
    (Err OutsideLimits)

-- All that was counted so far is within the limits of a book and has space in the lent tables.
pub record CountsFit (space : Space) (s : Reached) : Type 0 where
  pub limits : counts_within s ≡ true
  pub fitting : fits space s ≡ true

-- What counting a form comes to: the state after it, and whether all is within the limits and has space then.
pub record CountedAs (space : Space) (then : Reached) (answer : Counted) : Type 0 where
  pub state : answer.then ≡ then
  pub limits : answer.within ≡ counts_within then
  pub fitting : answer.fits ≡ fits space then

-- A line judged, with the offset after it.
unfoldable pub as_move : ℕ → Result Reached Fault → Result (Reached × ℕ) Fault
as_move next (Ok s) = Ok (s, next)
as_move next (Err fault) = Err fault
