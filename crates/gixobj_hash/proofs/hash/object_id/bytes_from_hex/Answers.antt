-- Each step decodes a pair of digits, as `hex` does.
use Rattle.std.proofs.Common.{◌+◌, ◌*◌, arith, slice_index, sym, ◌∙◌}
use Rattle.std.proofs.lemmas.List.{length-set}
use Rattle.hex.proofs.HexLemmas.{decode_of-even}
use Rattle.hex.proofs.Pairs.{decode_done, decode_step}
use Rattle.gixobj_hash.proofs.HexTests.{pair_value_of_digits, list_all_of_all_pass}
use Rattle.gixobj_hash.proofs.hash.object_id.bytes_from_hex.Goals as goal

pub returns-then-not-are_hex-clause-accepts : goal.returns-then-not-are_hex-clause-accepts
returns-then-not-are_hex-clause-accepts g c = (
  λ no. cc no,
  λ it. sym c.if-not-are_hex.true ∙ c.are_hex.ensures ∙ list_all_of_all_pass _ it.1,
)

pub bytes-preserved : goal.bytes-preserved
bytes-preserved g c = (
  length-set _ _ _ ∙ c.bytes.invariant.0,
  decode_step _ _ c.bytes.i _ (omega arith) (omega arith)
      (pair_value_of_digits (slice_index c.args.hex.now (2 * c.bytes.i)) (slice_index c.args.hex.now (2 * c.bytes.i + 1))
      (2 * c.bytes.i) c.value_of.result c.value_of-in-bytes.result c.value_of.ensures.value c.value_of-in-bytes.ensures.value) c.bytes.invariant.1,
)

pub returns-clause-value : goal.returns-clause-value
returns-clause-value g c =
    decode_of-even _ (omega arith) ∙ decode_done _ c.bytes.bytes c.bytes.i (omega arith) (omega arith) c.bytes.invariant.1

pub overflow_mul-i : goal.overflow_mul-i
overflow_mul-i g c = omega arith

pub bounds-hex-i : goal.bounds-hex-i
bounds-hex-i g c = omega arith

pub overflow_mul-bytes : goal.overflow_mul-bytes
overflow_mul-bytes g c = omega arith

pub overflow_mul-i-in-bytes : goal.overflow_mul-i-in-bytes
overflow_mul-i-in-bytes g c = omega arith

pub overflow_add-i : goal.overflow_add-i
overflow_add-i g c = omega arith

pub bounds-hex-i-in-bytes : goal.bounds-hex-i-in-bytes
bounds-hex-i-in-bytes g c = omega arith

pub overflow_add-bytes : goal.overflow_add-bytes
overflow_add-bytes g c = omega arith

pub bounds-bytes-i : goal.bounds-bytes-i
bounds-bytes-i g c = omega arith
