-- Content that is read, and digested or dropped, piece by piece; used by the proofs of `stream_hash`.
use Rattle.std.proofs.Common.{◌≡◌, ◌+◌, ◌-◌, ◌<◌, ◌≤◌, ℕ, List, [], ◌++◌, Option, Some, Result, Ok, Err, append_assoc, ap, arith, drop, length, length-append}
use Rattle.std.proofs.Common.{refl, rules, subst, sym, take}
use Rattle.std.specs.Prelude.{◌↔◌, IfErr, IfOk, IsOk, OnOk}
use Rattle.std.proofs.KnownBytes.{Consumes-kept, Consumes-nil, Consumes-trans}
use Rattle.std.proofs.lemmas.List.{append-nil, drop_at, take-append-le, take_at}
use Rattle.std.specs.Io.KnownBytes.{Consumes, IsAtEnd, Keeps}
use Rattle.std.specs.declared.io.Error as io
use Rattle.gixobj_hash.specs.Encode.{encode_loose_header}
use Rattle.gixobj_hash.specs.Hash.{digest_of, id_from, id_of}
use Rattle.gixobj_hash.specs.Hash.Hasher.{HoldsMessage}
use Rattle.gixobj_hash.specs.declared.hash.hasher.Hasher.{Hasher}
use Rattle.gixobj_hash.specs.declared.hash.kind.Kind.{Kind}
use Rattle.gixobj_hash.specs.declared.hash.object_id.ObjectId.{ObjectId}
use Rattle.gixobj_hash.specs.declared.kind.Kind as object
use Rattle.gixobj_encode.specs.declared.stream_hash.Error.{Error}
use Rattle.gixobj_encode.specs.declared.stream_hash.Error.TheVariants.{Io, UnexpectedEof}
use Rattle.gixobj_encode.specs.StreamHash.{AddsBytes, ReadsExactly, ReadsPrefix, ReadsObject, IsStreamError, SkipsExactly}

-- ---- one piece

reads_prefix_nil : (before after : Option (List ℕ)) (most : ℕ) → Keeps before after → 0 < most → ReadsPrefix before after most
reads_prefix_nil before after most kept some =
    record { prefix = []; consumed = Consumes-kept before before after [] (Consumes-nil before) kept; missing = some }

-- a failed read has read nothing
pub stream_error_of_read : (may_fail : Type 0) (before after : Option (List ℕ)) (most : ℕ) (cause : io.Error) → may_fail → Keeps before after → 0 < most
    → IsStreamError may_fail before after most (Io cause)
stream_error_of_read may_fail before after most cause may kept some = (may, reads_prefix_nil before after most kept some)

-- a read of no byte is a read at the end
pub stream_error_of_end : (may_fail : Type 0) (before after : Option (List ℕ)) (most count : ℕ) (piece : List ℕ) → count ≡ 0
    → Consumes before after (take count piece) → IsAtEnd after → 0 < most
    → IsStreamError may_fail before after most UnexpectedEof
stream_error_of_end may_fail before after most count piece none taken ended some =
    (record { prefix = []; consumed = subst (λ (n : ℕ). Consumes before after (take n piece)) none taken; missing = some }, ended)

-- the bytes that were read into the beginning of a buffer are a prefix of the buffer
pub consumes_take : (before after : Option (List ℕ)) (count : ℕ) (piece rest : List ℕ) → count ≤ length piece
    → Consumes before after (take count piece)
    → Consumes before after (take count (piece ++ rest))
consumes_take before after count piece rest fits taken = rw (take-append-le count piece rest fits) taken

-- ---- piece by piece

-- a prefix of the content was read and digested, and `missing` bytes remain
pub record Digesting (first now : Hasher) (before here : Option (List ℕ)) (len missing : ℕ) : Type 0 where
  pub prefix : List ℕ
  pub consumed : Consumes before here prefix
  pub counted : length prefix + missing ≡ len
  pub adds : AddsBytes first now prefix

pub digesting_nil : (first : Hasher) (before : Option (List ℕ)) (len : ℕ) → Digesting first first before before len len
digesting_nil first before len =
    record {
      prefix = [];
      consumed = Consumes-nil before;
      counted = omega arith;
      adds = λ kind message holds. rw (append-nil message) holds;
    }

pub digesting_step : (first now next : Hasher) (before here after : Option (List ℕ)) (len missing count : ℕ) (piece : List ℕ)
    → Digesting first now before here len missing → Consumes here after piece → AddsBytes now next piece → count ≡ length piece → count ≤ missing
    → Digesting first next before after len (missing - count)
digesting_step first now next before here after len missing count piece so_far taken adds counted fits =
    record {
      prefix = so_far.prefix ++ piece;
      consumed = Consumes-trans before here after so_far.prefix piece so_far.consumed taken;
      counted = omega (arith, so_far.counted, counted, fits, length-append so_far.prefix piece);
      adds = λ kind message holds. rw (← append_assoc message so_far.prefix piece)
          (adds kind (message ++ so_far.prefix) (so_far.adds kind message holds));
    }

pub digesting_complete : (first now : Hasher) (before here : Option (List ℕ)) (len missing : ℕ) → Digesting first now before here len missing → missing ≤ 0
    → (content : List ℕ) × ReadsExactly before here len content × AddsBytes first now content
digesting_complete first now before here len missing so_far none =
    (so_far.prefix, record { consumed = so_far.consumed; counted = omega (arith, so_far.counted, none) }, so_far.adds)

-- the bytes that were read and a proper prefix of the missing bytes are a proper prefix of all
reads_prefix_after_digesting : (first now : Hasher) (before here after : Option (List ℕ)) (len missing : ℕ) → Digesting first now before here len missing
    → ReadsPrefix here after missing
    → ReadsPrefix before after len
reads_prefix_after_digesting first now before here after len missing so_far part =
    record {
      prefix = so_far.prefix ++ part.prefix;
      consumed = Consumes-trans before here after so_far.prefix part.prefix so_far.consumed part.consumed;
      missing = omega (arith, so_far.counted, part.missing, length-append so_far.prefix part.prefix);
    }

-- an error of the missing bytes is an error of all
pub stream_error_after_piece : (may_fail may_fail' : Type 0) (first now : Hasher) (before here after : Option (List ℕ)) (len missing : ℕ) (error : Error)
    → Digesting first now before here len missing → (may_fail' → may_fail) → IsStreamError may_fail' here after missing error
    → IsStreamError may_fail before after len error
stream_error_after_piece may_fail may_fail' first now before here after len missing (Io cause) so_far lasting (may, part) =
    (lasting may, reads_prefix_after_digesting first now before here after len missing so_far part)
stream_error_after_piece may_fail may_fail' first now before here after len missing UnexpectedEof so_far lasting (part, ended) =
    (reads_prefix_after_digesting first now before here after len missing so_far part, ended)

-- the digest of the header and then of the content is the id
pub reads_object_of_digest : (hash : Kind) (kind : object.Kind) (before after : Option (List ℕ)) (len : ℕ) (start end : Hasher) (id : ObjectId)
    → HoldsMessage hash start (encode_loose_header kind len) → (content : List ℕ) × ReadsExactly before after len content
    × AddsBytes start end content
    → ((by : Kind) (message : List ℕ) → HoldsMessage by end message → id ≡ id_from by (digest_of by message))
    → ReadsObject hash kind before after len id
reads_object_of_digest hash kind before after len start end id header (content, read, adds) digest =
    (content, read, rw read.counted (digest hash (encode_loose_header kind len ++ content) (adds hash (encode_loose_header kind len) header)))

-- ---- bytes that are read and dropped

-- a prefix of the bytes was read, and `missing` bytes remain
pub record Skipping (before here : Option (List ℕ)) (len missing : ℕ) : Type 0 where
  pub prefix : List ℕ
  pub consumed : Consumes before here prefix
  pub counted : length prefix + missing ≡ len

pub skipping_nil : (before : Option (List ℕ)) (len : ℕ) → Skipping before before len len
skipping_nil before len = record { prefix = []; consumed = Consumes-nil before; counted = omega arith }

pub skipping_step : (before here after : Option (List ℕ)) (len missing count : ℕ) (piece : List ℕ) → Skipping before here len missing
    → Consumes here after piece → count ≡ length piece → count ≤ missing → Skipping before after len (missing - count)
skipping_step before here after len missing count piece so_far taken counted fits =
    record {
      prefix = so_far.prefix ++ piece;
      consumed = Consumes-trans before here after so_far.prefix piece so_far.consumed taken;
      counted = omega (arith, so_far.counted, counted, fits, length-append so_far.prefix piece);
    }

pub skipping_complete : (before here : Option (List ℕ)) (len missing : ℕ) → Skipping before here len missing → missing ≤ 0 → SkipsExactly before here len
skipping_complete before here len missing so_far none =
    (so_far.prefix, record { consumed = so_far.consumed; counted = omega (arith, so_far.counted, none) })

reads_prefix_after_skipping : (before here after : Option (List ℕ)) (len missing : ℕ) → Skipping before here len missing → ReadsPrefix here after missing
    → ReadsPrefix before after len
reads_prefix_after_skipping before here after len missing so_far part =
    record {
      prefix = so_far.prefix ++ part.prefix;
      consumed = Consumes-trans before here after so_far.prefix part.prefix so_far.consumed part.consumed;
      missing = omega (arith, so_far.counted, part.missing, length-append so_far.prefix part.prefix);
    }

pub skipping_error_is_stream_error : (may_fail may_fail' : Type 0) (before here after : Option (List ℕ)) (len missing : ℕ) (error : Error)
    → Skipping before here len missing
    → (may_fail' → may_fail) → IsStreamError may_fail' here after missing error
    → IsStreamError may_fail before after len error
skipping_error_is_stream_error may_fail may_fail' before here after len missing (Io cause) so_far lasting (may, part) =
    (lasting may, reads_prefix_after_skipping before here after len missing so_far part)
skipping_error_is_stream_error may_fail may_fail' before here after len missing UnexpectedEof so_far lasting (part, ended) =
    (reads_prefix_after_skipping before here after len missing so_far part, ended)

-- ---- a slice

pub slice_digest_ok_iff : (result : Result ObjectId Error) (hash : Kind) (kind : object.Kind) (all rest : List ℕ) (len : ℕ)
    → IfOk result (ReadsObject hash kind (Some all) (Some rest) len) → IfErr result (IsStreamError ⊥ (Some all) (Some rest) len)
    → IsOk result ↔ (len ≤ length all)
slice_digest_ok_iff (Ok id) hash kind all rest len (content, read, is) failure =
    (λ _. omega (arith, read.counted, ap length read.consumed, length-append content rest), λ _. search rules)
slice_digest_ok_iff (Err (Io cause)) hash kind all rest len found (may, part) = absurd may
slice_digest_ok_iff (Err UnexpectedEof) hash kind all rest len found (part, ended) = (
  λ ok. absurd (cc),
  λ enough. absurd
      (omega (arith, enough, part.missing, ap length part.consumed, ap length ended, length-append part.prefix rest)),
)

pub slice_digest_id : (result : Result ObjectId Error) (hash : Kind) (kind : object.Kind) (all rest : List ℕ) (len : ℕ)
    → IfOk result (ReadsObject hash kind (Some all) (Some rest) len) → IfOk result (λ id. id ≡ id_of hash kind (take len all))
slice_digest_id (Ok id) hash kind all rest len (content, read, is) =
    let joined : all ≡ content ++ rest = read.consumed in
    let head : take len all ≡ content = rw joined (take_at content rest len read.counted) in
    rw head is
slice_digest_id (Err error) hash kind all rest len found = tt

pub slice_digest_rest : (result : Result ObjectId Error) (hash : Kind) (kind : object.Kind) (all rest : List ℕ) (len : ℕ)
    → IfOk result (ReadsObject hash kind (Some all) (Some rest) len) → OnOk result (rest ≡ drop len all)
slice_digest_rest (Ok id) hash kind all rest len (content, read, is) =
    let joined : all ≡ content ++ rest = read.consumed in
    rw joined (sym (drop_at content rest len read.counted))
slice_digest_rest (Err error) hash kind all rest len found = tt

pub slice_digest_error : (result : Result ObjectId Error) (all rest : List ℕ) (len : ℕ)
    → IfErr result (IsStreamError ⊥ (Some all) (Some rest) len) → IfErr result (λ error. (error ≡ UnexpectedEof) × (rest ≡ []))
slice_digest_error (Ok id) all rest len failure = tt
slice_digest_error (Err (Io cause)) all rest len (may, part) = absurd may
slice_digest_error (Err UnexpectedEof) all rest len (part, ended) = (refl, ended)
