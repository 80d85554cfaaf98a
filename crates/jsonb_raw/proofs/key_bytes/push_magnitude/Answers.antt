use Rattle.jsonb_raw.proofs.Lemmas.{arith, ap, ◌∙◌, ◌≡◌, ◌+◌, ◌-◌, ◌++◌, length, take, drop, length-drop, take_all, digits_of, buffer_steps}
use Rattle.jsonb_raw.proofs.key_bytes.push_magnitude.Goals as goal

pub returns-clause-bytes : goal.returns-clause-bytes
returns-clause-bytes c =
    let buffer = c.write_before-start.new.buffer in
    let start = c.write_before-start.result in
    let exponent : 42 - c.write_digits-first.result + c.without_zeros-shorter.result.1 + 1000 - c.from.result ≡ length
    (digits_of 10 c.args.n) + 1000 - c.args.scale =
    omega (arith, c.write_digits-first.ensures.first, c.without_zeros-shorter.ensures.zeros, c.from.ensures) in
    let long : length buffer ≡ 43 = search (
      c.write_before-start.ensures.buffer.1,
      c.write_exponent-front.ensures.buffer.1,
      c.write_digits-first.ensures.buffer.1,
    ) in
    let all : take (43 - start) (drop start buffer) ≡ drop start buffer = grind (arith, take_all, length-drop) in
    buffer_steps c.args.negative c.args.out.now.items c.extend_from_slice.new.self.items _ _ _
    c.args.sign c.args.n c.args.scale _ c.complement_byte-buffer.result exponent
    c.write_before-start.ensures.buffer.0 c.write_exponent-front.ensures.buffer.0
    (rw c.without_zeros-shorter.ensures.digits at c.write_digits-first.ensures.buffer.0) c.complement_byte-buffer.ensures
    (c.in_ok-extend_from_slice.ensures.items ∙ ap (λ x. c.args.out.now.items ++ x) all)
