use Rattle.jsonb_doc.proofs.Lemmas.{arith, refl, spots_counted, HasSpotsLeft-passed, HasSpotsLeft-behind}
use Rattle.jsonb_doc.proofs.spot_iter.SpotIter.behind.Goals as goal

pub returns-then-count-self : goal.returns-then-count-self
returns-then-count-self c = record { left = λ bytes ts h. omega (arith, spots_counted bytes c.args.self.now ts h, c.if-count-self.true) }

pub returns : goal.returns
returns c = record {
  left = λ bytes ts h.
      let sum = rw c.split_at.ensures.front at c.contents_len.ensures.contents in
      let few = c.if-count-self.false in
      let passed = HasSpotsLeft-passed bytes c.args.self.now ts h c.args.count c.contents_len.result few sum in
      HasSpotsLeft-behind bytes c.args.self.now ts h c.args.count c.contents_len.result few sum _ c.split_at.ensures.back (omega (arith, passed)) refl;
}
