use Rattle.jsonb_raw.proofs.Lemmas.{refl, arith, [], ◌∷◌, ◌++◌, take, drop, members, values_of, text, failed, given, all_coming, none_after}
use Rattle.jsonb_raw.proofs.functions.object.insert.object_with_pair.Goals as goal

pub returns-in_err-keys-clause-inserted : goal.returns-in_err-keys-clause-inserted
returns-in_err-keys-clause-inserted c = λ form ps t h are dv at. absurd (c.in_err-keys.ensures.around form _ h.names)

pub returns-in_err-values-clause-inserted : goal.returns-in_err-values-clause-inserted
returns-in_err-values-clause-inserted c =
    λ form ps t h are dv at. absurd (c.in_err-values.ensures.around form _ h.parts)

pub returns-in_err-object-clause-inserted : goal.returns-in_err-object-clause-inserted
returns-in_err-object-clause-inserted c = λ form ps t h are dv at.
    given (c.in_ok-keys.ensures.around form _ h.names) (λ keys.
    failed _ _ _ c.from_residual-in_err-object.ensures.1
    (c.in_err-object.ensures.opened form _ _ (all_coming _ _ t ps _ are at
    (omega (arith, c.len.ensures.count form _ keys.0, c.len-2.ensures.count form _ keys.1)))))

pub returns-in_err-copy_with-clause-inserted : goal.returns-in_err-copy_with-clause-inserted
returns-in_err-copy_with-clause-inserted c = λ form ps t h are dv at.
    given (c.in_ok-keys.ensures.around form _ h.names) (λ keys.
    given (c.in_ok-object.ensures.opened form _ _ (all_coming _ _ t ps _ are at
    (omega (arith, c.len.ensures.count form _ keys.0, c.len-2.ensures.count form _ keys.1)))) (λ begun.
    let all = values_of (members ps) in
    let rest = take c.args.place.passed all ++ (t ∷ drop c.args.place.taken (drop c.args.place.passed all)) in
    failed _ _ _ c.from_residual-in_err-copy_with.ensures.1
    (c.in_err-copy_with.ensures.copied form _ (text c.args.key.now) _ rest [] _ keys.0
    (refl, c.as_bytes.ensures.value, c.utf8.key) keys.1 begun)))

pub returns-in_err-copy_with-2-clause-inserted : goal.returns-in_err-copy_with-2-clause-inserted
returns-in_err-copy_with-2-clause-inserted c = λ form ps t h are dv at.
    given (c.in_ok-keys.ensures.around form _ h.names) (λ keys.
    given (c.in_ok-values.ensures.around form _ h.parts) (λ values.
    given (c.in_ok-object.ensures.opened form _ _ (all_coming _ _ t ps _ are at
    (omega (arith, c.len.ensures.count form _ keys.0, c.len-2.ensures.count form _ keys.1)))) (λ begun.
    let all = values_of (members ps) in
    let rest = take c.args.place.passed all ++ (t ∷ drop c.args.place.taken (drop c.args.place.passed all)) in
    given (c.in_ok-copy_with.ensures.copied form _ (text c.args.key.now) _ rest [] _ keys.0 (refl, c.as_bytes.ensures.value, c.utf8.key) keys.1 begun) (λ keyed.
    failed _ _ _ c.from_residual-in_err-copy_with-2.ensures.1
    (c.in_err-copy_with-2.ensures.copied form _ t _ [] [] _ values.0
    (c.in_ok-value.ensures.entry form t dv) values.1 (none_after form _ _ _ t [] _ keyed))))))

pub returns-in_err-finish-clause-inserted : goal.returns-in_err-finish-clause-inserted
returns-in_err-finish-clause-inserted c = λ form ps t h are dv at.
    given (c.in_ok-keys.ensures.around form _ h.names) (λ keys.
    given (c.in_ok-values.ensures.around form _ h.parts) (λ values.
    given (c.in_ok-object.ensures.opened form _ _ (all_coming _ _ t ps _ are at
    (omega (arith, c.len.ensures.count form _ keys.0, c.len-2.ensures.count form _ keys.1)))) (λ begun.
    let all = values_of (members ps) in
    let rest = take c.args.place.passed all ++ (t ∷ drop c.args.place.taken (drop c.args.place.passed all)) in
    given (c.in_ok-copy_with.ensures.copied form _ (text c.args.key.now) _ rest [] _ keys.0 (refl, c.as_bytes.ensures.value, c.utf8.key) keys.1 begun) (λ keyed.
    absurd (c.in_err-finish.ensures.written form _ (c.in_ok-copy_with-2.ensures.copied form _ t _ [] [] _ values.0
    (c.in_ok-value.ensures.entry form t dv) values.1 (none_after form _ _ _ t [] _ keyed)))))))

pub returns-clause-inserted : goal.returns-clause-inserted
returns-clause-inserted c = λ form ps t h are dv at.
    given (c.in_ok-keys.ensures.around form _ h.names) (λ keys.
    given (c.in_ok-values.ensures.around form _ h.parts) (λ values.
    given (c.in_ok-object.ensures.opened form _ _ (all_coming _ _ t ps _ are at
    (omega (arith, c.len.ensures.count form _ keys.0, c.len-2.ensures.count form _ keys.1)))) (λ begun.
    let all = values_of (members ps) in
    let rest = take c.args.place.passed all ++ (t ∷ drop c.args.place.taken (drop c.args.place.passed all)) in
    given (c.in_ok-copy_with.ensures.copied form _ (text c.args.key.now) _ rest [] _ keys.0 (refl, c.as_bytes.ensures.value, c.utf8.key) keys.1 begun) (λ keyed.
    rw c.new-2.ensures (c.in_ok-finish.ensures.written form _
    (c.in_ok-copy_with-2.ensures.copied form _ t _ [] [] _ values.0
    (c.in_ok-value.ensures.entry form t dv) values.1 (none_after form _ _ _ t [] _ keyed)))))))
