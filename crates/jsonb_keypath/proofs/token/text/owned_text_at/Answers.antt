use Rattle.jsonb_keypath.proofs.Common.{◌≡◌, ap, ℕ, Vec, Global, string_bytes, is_utf8-from_IsUtf8, IsUtf8-string_bytes, excluded}
use Rattle.jsonb_keypath.proofs.TextLemmas.{text-none, text-some, text-damaged, is_utf8-false}
use Rattle.jsonb_keypath.proofs.token.text.owned_text_at.Goals as goal

pub returns-in_default-clause-value : goal.returns-in_default-clause-value
returns-in_default-clause-value c =
    text-none (excluded c.args.ending) c.args.input.now (rw c.in_default.is at c.in_ok-bytes.ensures.value)

pub returns-in-Ok-clause-value : goal.returns-in-Ok-clause-value
returns-in-Ok-clause-value c =
    let same : string_bytes c.in-Ok.found ≡ c.in-Some.bytes.items = ap (λ (v : Vec ℕ Global). v.items) c.in-Ok.ensures.ok in
    rw same (text-some (excluded c.args.ending) c.args.input.now c.in-Some.bytes.items c.in-Some.after.now (rw c.in-Some.is at c.in_ok-bytes.ensures.value)
    (rw same at (is_utf8-from_IsUtf8 _ (IsUtf8-string_bytes c.in-Ok.found))))

pub returns-clause-value : goal.returns-clause-value
returns-clause-value c =
    text-damaged (excluded c.args.ending) c.args.input.now c.in-Some.bytes.items c.in-Some.after.now (rw c.in-Some.is at c.in_ok-bytes.ensures.value)
    (is_utf8-false _ (λ u. (let no = c.in-Err.ensures.succeeds u in cc)))
