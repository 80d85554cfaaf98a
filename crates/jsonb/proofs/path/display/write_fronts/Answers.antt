use Rattle.jsonb.proofs.Lemmas.{◌++◌, refl, sym, ap, ◌∙◌, add-one, has_written_append, has_written_of_eq, expression_view, left_of, below, front_text, fronts_text, left_more, fronts_more}
use Rattle.jsonb.proofs.path.display.write_fronts.Goals as goal

pub loop-preserved : goal.loop-preserved
loop-preserved g c =
    let e = expression_view c.args.chain.now in
    let n = c.loop.counter in
    record {
      reached = c.left_of-inner.ensures ∙ ap left_of c.loop.invariant.reached ∙ sym (left_more n e) ∙ ap (λ n. below n e) (sym (add-one n));
      written = λ plain.
          let had = c.loop.invariant.written plain in
          has_written_of_eq _ _ _ _ _ (ap (λ x. fronts_text n e ++ front_text x) c.loop.invariant.reached
          ∙ sym (fronts_more n e) ∙ ap (λ n. fronts_text n e) (sym (add-one n)))
          (has_written_append _ _ _ _ _ _ had (c.in_ok-write_front.ensures had.plain refl));
    }
