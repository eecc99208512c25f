-- The content of an object that is read piece by piece; the proof of `read_content` uses it.
use Rattle.std.proofs.Common.{◌≡◌, ◌+◌, ◌-◌, ◌≤◌, ◌++◌, ℕ, List, [], Option, arith, length, length-append}
use Rattle.std.proofs.KnownBytes.{Consumes-nil, Consumes-trans}
use Rattle.std.specs.Io.KnownBytes.{Consumes}
use Rattle.gixobj_encode.specs.StreamHash.{IsStreamError, ReadsExactly, ReadsPrefix}
use Rattle.gixobj_encode.specs.declared.stream_hash.Error.{Error}
use Rattle.gixobj_encode.specs.declared.stream_hash.Error.TheVariants.{Io, UnexpectedEof}
use Rattle.gixobj_store_keep.specs.Memory.{IsContentError, ReadsUpTo}
use Rattle.gixobj_store_keep.specs.declared.write.Error.TheVariants.{Read}

-- these bytes were read, and `missing` bytes remain
pub record ReadsSoFar (before here : Option (List ℕ)) (size missing : ℕ) (content : List ℕ) : Type 0 where
  pub consumed : Consumes before here content
  pub counted : length content + missing ≡ size

pub reads_so_far_nil : (before : Option (List ℕ)) (size : ℕ) (content : List ℕ) → content ≡ [] → ReadsSoFar before before size size content
reads_so_far_nil before size content none = rw none (record { consumed = Consumes-nil before; counted = omega arith })

pub reads_so_far_append : (before here after : Option (List ℕ)) (size missing count : ℕ) (content piece longer : List ℕ)
    → ReadsSoFar before here size missing content
    → Consumes here after piece → count ≡ length piece → count ≤ missing → longer ≡ content ++ piece
    → ReadsSoFar before after size (missing - count) longer
reads_so_far_append before here after size missing count content piece longer so_far taken counted fits is =
    rw is (record {
      consumed = Consumes-trans before here after content piece so_far.consumed taken;
      counted = omega (arith, so_far.counted, counted, fits, length-append content piece);
    })

pub reads_exactly_of_none_missing : (before here : Option (List ℕ)) (size missing : ℕ) (content : List ℕ)
    → ReadsSoFar before here size missing content → missing ≤ 0
    → ReadsExactly before here size content
reads_exactly_of_none_missing before here size missing content so_far none =
    record { consumed = so_far.consumed; counted = omega (arith, so_far.counted, none) }

reads_prefix_after_piece : (before here after : Option (List ℕ)) (size missing : ℕ) (content : List ℕ) → ReadsSoFar before here size missing content
    → ReadsPrefix here after missing
    → ReadsPrefix before after size
reads_prefix_after_piece before here after size missing content so_far part =
    record {
      prefix = content ++ part.prefix;
      consumed = Consumes-trans before here after content part.prefix so_far.consumed part.consumed;
      missing = omega (arith, so_far.counted, part.missing, length-append content part.prefix);
    }

pub content_error_after_piece : (may_fail may_fail' : Type 0) (before here after : Option (List ℕ)) (size missing : ℕ) (content : List ℕ) (error : Error)
    → ReadsSoFar before here size missing content
    → (may_fail' → may_fail) → IsStreamError may_fail' here after missing error
    → IsContentError may_fail before after size (Read error)
content_error_after_piece may_fail may_fail' before here after size missing content (Io cause) so_far lasting (may, part) =
    (lasting may, reads_prefix_after_piece before here after size missing content so_far part)
content_error_after_piece may_fail may_fail' before here after size missing content UnexpectedEof so_far lasting (part, ended) =
    (reads_prefix_after_piece before here after size missing content so_far part, ended)

-- a piece that has no room in memory is read too
pub reads_up_to_with_piece : (before here after : Option (List ℕ)) (size missing count : ℕ) (content piece : List ℕ)
    → ReadsSoFar before here size missing content
    → Consumes here after piece → count ≡ length piece → count ≤ missing → ReadsUpTo before after size
reads_up_to_with_piece before here after size missing count content piece so_far taken counted fits = record {
  bytes = content ++ piece;
  consumed = Consumes-trans before here after content piece so_far.consumed taken;
  bounded = omega (arith, so_far.counted, counted, fits, length-append content piece);
}

pub reads_up_to_of_reads_exactly : (before after : Option (List ℕ)) (size : ℕ) (content : List ℕ) → ReadsExactly before after size content
    → ReadsUpTo before after size
reads_up_to_of_reads_exactly before after size content reads =
    record { bytes = content; consumed = reads.consumed; bounded = omega (arith, reads.counted) }
