use Rattle.jsonb_keypath.proofs.Common.{refl, true, has_written_append, has_written_of_eq}
use Rattle.jsonb_keypath.proofs.ShowLemmas.{quoted_more}
use Rattle.jsonb_keypath.proofs.token.quoting.write_escaped.Goals as goal

pub loop-c-preserved : goal.loop-c-preserved
loop-c-preserved g c plain =
    let had = c.loop-c.invariant plain in
    has_written_of_eq _ _ _ _ _ (quoted_more c.loop-c.yielded c.in-Some.c)
    (has_written_append _ _ _ _ _ _ had (c.in_ok-write_escaped_char.ensures had.plain (refl {a = true})))
