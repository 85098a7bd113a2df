use Rattle.places.proofs.Bits.{put_in}
use Rattle.places.proofs.Places.insert.Goals as goal

-- src/lib.rt:29:5
pub returns-then-place-lt64-clause-below : goal.returns-then-place-lt64-clause-below
returns-then-place-lt64-clause-below c = put_in c.args.self.now.bits c.args.place
