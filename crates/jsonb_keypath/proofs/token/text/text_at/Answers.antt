use Rattle.jsonb_keypath.proofs.Common.{◌≡◌, ◌<◌, sym, ◌∙◌, None, [], ◌∷◌, arith, take_while, prefix_len, prefix_len-le-length, is_utf8-from_IsUtf8, bytes, is_unescaped, past, excluded}
use Rattle.jsonb_keypath.proofs.TextLemmas.{units-plain, units-no_plain, text-none, text-some, text-damaged, is_utf8-false}
use Rattle.jsonb_keypath.proofs.token.text.text_at.Goals as goal

pub split_at-requires : goal.split_at-requires
split_at-requires c = omega (arith, c.plain_count-count.ensures, prefix_len-le-length (is_unescaped (excluded c.args.ending)) c.args.input.now)

pub returns-then-count-eq0-clause-value : goal.returns-then-count-eq0-clause-value
returns-then-count-eq0-clause-value c =
    let e = excluded c.args.ending in
    let after : c.split_at.result.1.now ≡ past (is_unescaped e) c.args.input.now = rw (← c.plain_count-count.ensures) c.split_at.ensures.back in
    let none : None ≡ bytes (92 ∷ []) (past (is_unescaped e) c.args.input.now) = rw after at c.in_default.ensures.value in
    text-none e c.args.input.now (sym (units-no_plain e c.args.input.now (sym c.plain_count-count.ensures ∙ c.if-count-eq0.true) none))

pub returns-in-Ok-clause-value : goal.returns-in-Ok-clause-value
returns-in-Ok-clause-value c =
    let e = excluded c.args.ending in
    let front : c.split_at.result.0.now ≡ take_while (is_unescaped e) c.args.input.now = rw (← c.plain_count-count.ensures) c.split_at.ensures.front in
    let after : c.split_at.result.1.now ≡ past (is_unescaped e) c.args.input.now = rw (← c.plain_count-count.ensures) c.split_at.ensures.back in
    let none : None ≡ bytes (92 ∷ []) (past (is_unescaped e) c.args.input.now) = rw after at c.in_default.ensures.value in
    let some : 0 < prefix_len (is_unescaped e) c.args.input.now = omega (arith, c.plain_count-count.ensures, c.if-count-eq0.false) in
    let found : c.in-Ok.found.now ≡ take_while (is_unescaped e) c.args.input.now = c.in-Ok.ensures.cases.0 ∙ front in
    rw (found, after) (text-some e c.args.input.now (take_while (is_unescaped e) c.args.input.now) (past (is_unescaped e) c.args.input.now)
    (sym (units-plain e c.args.input.now some none))
    (rw front at (is_utf8-from_IsUtf8 _ c.in-Ok.ensures.cases.1)))

pub returns-in-Err-clause-value : goal.returns-in-Err-clause-value
returns-in-Err-clause-value c =
    let e = excluded c.args.ending in
    let front : c.split_at.result.0.now ≡ take_while (is_unescaped e) c.args.input.now = rw (← c.plain_count-count.ensures) c.split_at.ensures.front in
    let after : c.split_at.result.1.now ≡ past (is_unescaped e) c.args.input.now = rw (← c.plain_count-count.ensures) c.split_at.ensures.back in
    let none : None ≡ bytes (92 ∷ []) (past (is_unescaped e) c.args.input.now) = rw after at c.in_default.ensures.value in
    let some : 0 < prefix_len (is_unescaped e) c.args.input.now = omega (arith, c.plain_count-count.ensures, c.if-count-eq0.false) in
    text-damaged e c.args.input.now (take_while (is_unescaped e) c.args.input.now) (past (is_unescaped e) c.args.input.now)
    (sym (units-plain e c.args.input.now some none))
    (rw front at (is_utf8-false _ c.in-Err.ensures.cases.0))
