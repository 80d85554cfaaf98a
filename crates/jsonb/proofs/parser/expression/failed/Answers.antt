use Rattle.jsonb.proofs.Lemmas.{◌∙◌, arith, resumed, failure-passed, none_open}
use Rattle.jsonb.proofs.parser.expression.failed.Goals as goal

pub loop-frame-preserved-in-Some : goal.loop-frame-preserved-in-Some
loop-frame-preserved-in-Some c =
    let passed = failure-passed c.loop-frame.frames.items c.pop.new.self.items c.in-Some.frame c.loop-frame.outer c.in-Some.ensures.items
    c.loop-frame.invariant.partial c.loop-frame.invariant.frames in
    record { read = passed.0 ∙ c.loop-frame.invariant.read; frames = passed.1; partial = passed.2 }

pub loop-frame-preserved : goal.loop-frame-preserved
loop-frame-preserved c =
    let passed = failure-passed c.loop-frame.frames.items c.pop.new.self.items c.in-Some.frame c.loop-frame.outer c.in-Some.ensures.items
    c.loop-frame.invariant.partial c.loop-frame.invariant.frames in
    record { read = passed.0 ∙ c.loop-frame.invariant.read; frames = passed.1; partial = passed.2 }

pub returns : goal.returns
unfolding resumed
returns c = grind (arith, none_open)
