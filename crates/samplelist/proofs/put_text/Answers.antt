-- `samplelist::put_text` meets its contract: each arm puts the text that the list has at its place.
use mathlib.Core.Path.{refl}
use native.Mathlib.Omega.{arith}
use Rattle.samplelist.specs.Samples.{bytes, prints, samples, texts, text_at}
use Rattle.samplelist.proofs.SampleLaws.{put_as, book_room, last}
use Rattle.samplelist.proofs.put_text.Goals as goal

pub put_book_a-requires : goal.put_book_a-requires
put_book_a-requires c = book_room _ _ (omega arith) c.requires.1

pub put_book_a-requires-in-1 : goal.put_book_a-requires-in-1
put_book_a-requires-in-1 c = book_room _ _ (omega arith) c.requires.1

pub put_book_a-requires-in-2 : goal.put_book_a-requires-in-2
put_book_a-requires-in-2 c = book_room _ _ (omega arith) c.requires.1

pub put_book_a-requires-in-3 : goal.put_book_a-requires-in-3
put_book_a-requires-in-3 c = book_room _ _ (omega arith) c.requires.1

pub put-requires : goal.put-requires
put-requires c = omega (arith, c.requires.1)

pub put-requires-in-5 : goal.put-requires-in-5
put-requires-in-5 c = omega (arith, c.requires.1)

pub put-requires-in-6 : goal.put-requires-in-6
put-requires-in-6 c = omega (arith, c.requires.1)

pub put-requires-in-7 : goal.put-requires-in-7
put-requires-in-7 c = omega (arith, c.requires.1)

pub put-requires-in-8 : goal.put-requires-in-8
put-requires-in-8 c = omega (arith, c.requires.1)

pub put-requires-in-9 : goal.put-requires-in-9
put-requires-in-9 c = omega (arith, c.requires.1)

pub put-requires-in-10 : goal.put-requires-in-10
put-requires-in-10 c = omega (arith, c.requires.1)

pub put-requires-in_default : goal.put-requires-in_default
put-requires-in_default c = omega (arith, c.requires.1)

pub returns-in-0 : goal.returns-in-0
unfolding bytes prints samples text_at texts
returns-in-0 c = put_as c.in-0.is refl c.put_book_a.ensures

pub returns-in-1 : goal.returns-in-1
unfolding bytes prints samples text_at texts
returns-in-1 c = put_as c.in-1.is refl c.put_book_a-in-1.ensures

pub returns-in-2 : goal.returns-in-2
unfolding bytes prints samples text_at texts
returns-in-2 c = put_as c.in-2.is refl c.put_book_a-in-2.ensures

pub returns-in-3 : goal.returns-in-3
unfolding bytes prints samples text_at texts
returns-in-3 c = put_as c.in-3.is refl c.put_book_a-in-3.ensures

pub returns-in-4 : goal.returns-in-4
unfolding bytes prints samples text_at texts
returns-in-4 c = put_as c.in-4.is refl c.put.ensures

pub returns-in-5 : goal.returns-in-5
unfolding bytes prints samples text_at texts
returns-in-5 c = put_as c.in-5.is refl c.put-in-5.ensures

pub returns-in-6 : goal.returns-in-6
unfolding bytes prints samples text_at texts
returns-in-6 c = put_as c.in-6.is refl c.put-in-6.ensures

pub returns-in-7 : goal.returns-in-7
unfolding bytes prints samples text_at texts
returns-in-7 c = put_as c.in-7.is refl c.put-in-7.ensures

pub returns-in-8 : goal.returns-in-8
unfolding bytes prints samples text_at texts
returns-in-8 c = put_as c.in-8.is refl c.put-in-8.ensures

pub returns-in-9 : goal.returns-in-9
unfolding bytes prints samples text_at texts
returns-in-9 c = put_as c.in-9.is refl c.put-in-9.ensures

pub returns-in-10 : goal.returns-in-10
unfolding bytes prints samples text_at texts
returns-in-10 c = put_as c.in-10.is refl c.put-in-10.ensures

pub returns-in_default : goal.returns-in_default
unfolding bytes prints samples text_at texts
returns-in_default c = put_as (last _ c.requires.0 c.in_default.in_default-own.rest) refl c.put-in_default.ensures
