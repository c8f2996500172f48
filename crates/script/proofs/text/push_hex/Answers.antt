use Rattle.std.proofs.Common.{length, take, ap, arith}
use Rattle.std.proofs.lemmas.Str.{encode_ascii}
use Rattle.std.proofs.lemmas.List.{length-append, length-take-le, take_all}
use Rattle.script.specs.Hex.{hex}
use Rattle.script.proofs.Lengths.{length_hex}
use Rattle.script.proofs.HexTexts.{hex_more}
use Rattle.script.proofs.text.push_hex.Goals as goal

pub push-requires : goal.push-requires
push-requires g c =
    let e = encode_ascii c.hex_digit.result c.hex_digit.ensures.ascii in
    let n = length_hex (take c.loop-byte.byte-index c.args.bytes.now) in
    rw e (omega (arith, ap length c.loop-byte.invariant, length-append c.args.text.now.bytes (hex (take c.loop-byte.byte-index c.args.bytes.now)), length-take-le c.loop-byte.byte-index c.args.bytes.now))

pub push-requires-in-loop-byte : goal.push-requires-in-loop-byte
push-requires-in-loop-byte g c =
    let e = encode_ascii c.hex_digit-in-loop-byte.result c.hex_digit-in-loop-byte.ensures.ascii in
    let n = length_hex (take c.loop-byte.byte-index c.args.bytes.now) in
    rw e (omega (arith, ap length c.loop-byte.invariant, length-append c.args.text.now.bytes (hex (take c.loop-byte.byte-index c.args.bytes.now)), length-take-le c.loop-byte.byte-index c.args.bytes.now, length-append c.loop-byte.text.bytes, ap length (c.push.ensures.ascii c.hex_digit.ensures.ascii)))

pub loop-byte-preserved : goal.loop-byte-preserved
loop-byte-preserved g c =
    hex_more c.args.text.now.bytes c.args.bytes.now c.loop-byte.byte-index _ _ _ _ _ c.loop-byte-test.true c.loop-byte.invariant c.hex_digit.ensures.digit (c.push.ensures.ascii c.hex_digit.ensures.ascii) c.hex_digit-in-loop-byte.ensures.digit (c.push-in-loop-byte.ensures.ascii c.hex_digit-in-loop-byte.ensures.ascii)

pub returns-clause-len : goal.returns-clause-len
returns-clause-len g c =
    let n = length_hex (take c.loop-byte.byte-index c.args.bytes.now) in
    let m = take_all c.loop-byte.byte-index c.args.bytes.now c.loop-byte-test.false in
    omega (arith, ap length c.loop-byte.invariant, length-append c.args.text.now.bytes (hex (take c.loop-byte.byte-index c.args.bytes.now)), ap length m)
