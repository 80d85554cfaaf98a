use Rattle.jsonb_doc.proofs.Lemmas.{take_all, drop_all, ◌≡◌, min, length, arith, common_steps, contents_there, both_hold}
use Rattle.jsonb_doc.proofs.cursor.Entries.split.Goals as goal

pub returns-then-count-len-clause-split : goal.returns-then-count-len-clause-split
returns-then-count-len-clause-split c = λ form ts h. grind (arith, common_steps, take_all, drop_all)

pub returns-in_default-clause-split : goal.returns-in_default-clause-split
returns-in_default-clause-split c = λ form ts h.
    let few : c.args.count ≡ min c.args.count (length ts) = omega (arith, c.len-len.ensures.count form ts h) in
    contents_there form _ ts c.args.count c.args.count h few _ c.split_at.ensures.front c.in_default.ensures.rest

pub returns-clause-split : goal.returns-clause-split
returns-clause-split c = λ form ts h.
    let few : c.args.count ≡ min c.args.count (length ts) = omega (arith, c.len-len.ensures.count form ts h) in
    both_hold form _ ts _ _ h few _ _ c.split_at.ensures.front c.split_at.ensures.back c.in-Some.ensures.rest c.split_at-2.ensures.front
