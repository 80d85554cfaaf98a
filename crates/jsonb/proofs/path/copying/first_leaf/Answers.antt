use Rattle.jsonb.proofs.Lemmas.{◌≡◌, [], ◌∷◌, ◌++◌, sym, ap, ap₂, ◌∙◌, arith, binary, unary, expression_view, waiting, have_document, expression_parts, Frame, framed-more, waiting-push, have_document-push, or_false, binary_is, unary_is}
use Rattle.jsonb.specs.declared.path.copying.Frame.TheVariants as frame
use Rattle.jsonb.proofs.path.copying.first_leaf.Goals as goal

pub loop-inner-preserved-in-BinaryOp : goal.loop-inner-preserved-in-BinaryOp
loop-inner-preserved-in-BinaryOp c =
    let op = c.in-BinaryOp.op in
    let frames = c.loop-inner.frames.items in
    let is = binary_is c.loop-inner.inner.now op c.in-BinaryOp.left c.in-BinaryOp.right c.in-BinaryOp.is in
    let f : Frame = frame.Right op c.deref.result in
    let pushed : c.push.new.self.items ≡ frames ++ f ∷ [] = c.in_ok-push-in-BinaryOp.ensures.items in
    let left = ap expression_view c.deref-inner.ensures in
    let right = ap expression_view c.deref.ensures in
    let left_parts = ap expression_parts left in
    let right_parts = ap expression_parts right in
    let all_parts = ap expression_parts is in
    let added = ap waiting pushed ∙ waiting-push frames f in
    record {
      whole = framed-more frames c.push.new.self.items f _ _ pushed (ap₂ (binary op) left right ∙ sym is) ∙ c.loop-inner.invariant.whole;
      fewer = omega (arith, c.loop-inner.invariant.fewer);
      documents = ap have_document pushed ∙ have_document-push frames f ∙ or_false (have_document frames) ∙ c.loop-inner.invariant.documents;
    }

pub loop-inner-preserved : goal.loop-inner-preserved
loop-inner-preserved c =
    let op = c.in-UnaryOp.op in
    let frames = c.loop-inner.frames.items in
    let is = unary_is c.loop-inner.inner.now op c.in-UnaryOp.operand c.in-UnaryOp.is in
    let f : Frame = frame.Sign op in
    let pushed : c.push-in-UnaryOp.new.self.items ≡ frames ++ f ∷ [] = c.in_ok-push-in-UnaryOp.ensures.items in
    let operand = ap expression_view c.deref-inner-in-UnaryOp.ensures in
    let operand_parts = ap expression_parts operand in
    let all_parts = ap expression_parts is in
    let added = ap waiting pushed ∙ waiting-push frames f in
    record {
      whole = framed-more frames c.push-in-UnaryOp.new.self.items f _ _ pushed (ap (unary op) operand ∙ sym is) ∙ c.loop-inner.invariant.whole;
      fewer = omega (arith, c.loop-inner.invariant.fewer);
      documents = ap have_document pushed ∙ have_document-push frames f ∙ or_false (have_document frames) ∙ c.loop-inner.invariant.documents;
    }
