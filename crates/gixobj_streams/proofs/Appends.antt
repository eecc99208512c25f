-- Appends to a sink in several steps are one append, entire or of a proper prefix; used by the proofs of fields,
-- actors, commits, tags and trees.
use Rattle.std.proofs.Common.{◌≡◌, ◌⊎◌, inl, inr, ◌==◌, true, false, refl, ◌-◌, ◌<◌, ◌≤◌, ℕ, take, drop, List, [], ◌++◌, Option, Some, None, ◌∷◌, Result, Ok}
use Rattle.std.proofs.Common.{Err, append_assoc, arith, length, length-append, sym, ap, ◌∙◌}
use Rattle.std.proofs.lemmas.Bool.{eqb-true}
use Rattle.std.proofs.lemmas.List.{append-nil, length-drop, take-append-drop, take_all}
use Rattle.std.proofs.KnownBytes.{Appends-kept}
use Rattle.std.specs.Io.KnownBytes.{Appends, Keeps}
use Rattle.gixobj_streams.specs.Streams.{AppendsAll, AppendsPrefix, AppendsOrFails, FailsToAppend, SinkView, writer_view}
use Rattle.std.specs.declared.io.Error as io

pub appends_append : (a b c : Option (List ℕ)) (x y : List ℕ) → Appends a b x → Appends b c y → Appends a c (x ++ y)
appends_append None b c x y p q = tt
appends_append (Some a) None c x y p q = absurd p
appends_append (Some a) (Some b) None x y p q = absurd q
appends_append (Some a) (Some b) (Some c) x y p q = rw (q, p) (append_assoc a x y)

pub appends_nil : (held : Option (List ℕ)) → Appends held held []
appends_nil None = tt
appends_nil (Some bytes) = sym (append-nil bytes)

pub appends_all_nil : (a : SinkView) → AppendsAll a a []
appends_all_nil a = record { held = appends_nil a.held; room = omega arith }

pub appends_all_append : (a b c : SinkView) (x y : List ℕ) → AppendsAll a b x → AppendsAll b c y → AppendsAll a c (x ++ y)
appends_all_append a b c x y first second =
    record {
      held = appends_append a.held b.held c.held x y first.held second.held;
      room = omega (arith, first.room, second.room, length-append x y);
    }

-- a proper prefix of the first part is one of all the bytes
pub appends_prefix_first : {e : io.Error} (a b : SinkView) (x y : List ℕ) → AppendsPrefix a b x e → AppendsPrefix a b (x ++ y) e
appends_prefix_first a b x y part =
    record {
      prefix = part.prefix;
      rest = part.rest ++ y;
      joined = ap (λ (it : List ℕ). it ++ y) part.joined ∙ append_assoc part.prefix part.rest y;
      missing = omega (arith, part.missing, length-append part.rest y);
      held = part.held;
      short = omega (arith, part.short, length-append x y);
      of_kind = part.of_kind;
    }

-- the first part and a proper prefix of the second are a proper prefix of both
pub appends_prefix_append : {e : io.Error} (a b c : SinkView) (x y : List ℕ) → AppendsAll a b x → AppendsPrefix b c y e → AppendsPrefix a c (x ++ y) e
appends_prefix_append a b c x y first part =
    record {
      prefix = x ++ part.prefix;
      rest = part.rest;
      joined = ap (λ (it : List ℕ). x ++ it) part.joined ∙ sym (append_assoc x part.prefix part.rest);
      missing = part.missing;
      held = appends_append a.held b.held c.held x part.prefix first.held part.held;
      short = omega (arith, first.room, part.short, length-append x y);
      of_kind = part.of_kind;
    }

-- the first part and a proper prefix of the second are a proper prefix of all three parts
pub appends_prefix_middle : {e : io.Error} (a b c : SinkView) (x y z : List ℕ) → AppendsAll a b x → AppendsPrefix b c y e → AppendsPrefix a c (x ++ (y ++ z)) e
appends_prefix_middle a b c x y z first part = appends_prefix_append a b c x (y ++ z) first (appends_prefix_first b c y z part)

-- a proper prefix of a part and its last byte is one of all the bytes
pub appends_prefix_before_byte : {e : io.Error} (a b : SinkView) (x : List ℕ) (byte : ℕ) (z : List ℕ) → AppendsPrefix a b (x ++ byte ∷ []) e
    → AppendsPrefix a b (x ++ byte ∷ z) e
appends_prefix_before_byte a b x byte z part = rw (← append_assoc x (byte ∷ []) z) (appends_prefix_first a b (x ++ byte ∷ []) z part)

pub appends_prefix_after_byte : {e : io.Error} (a b c : SinkView) (x : List ℕ) (byte : ℕ) (z : List ℕ) → AppendsAll a b (x ++ byte ∷ [])
    → AppendsPrefix b c z e → AppendsPrefix a c (x ++ byte ∷ z) e
appends_prefix_after_byte a b c x byte z first part = rw (← append_assoc x (byte ∷ []) z) (appends_prefix_append a b c (x ++ byte ∷ []) z first part)

-- a list splits after a prefix and `n` more elements
pub append_take_drop : (head all rest : List ℕ) (n : ℕ) → all ≡ head ++ rest → n ≤ length rest → all ≡ (head ++ take n rest) ++ take (length rest - n)
    (drop n rest)
append_take_drop head all rest n joined short =
    let following : take (length rest - n) (drop n rest) ≡ drop n rest =
    take_all (length rest - n) (drop n rest) (omega (arith, length-drop n rest)) in
    rw following (joined ∙ ap (λ (it : List ℕ). head ++ it) (sym (take-append-drop n rest)) ∙ sym (append_assoc head (take n rest) (drop n rest)))

-- an append after the first part is an append of both parts
pub appends_or_fails_append : {T : Type 0} (r : Result T io.Error) (a b c : SinkView) (x y : List ℕ) → AppendsAll a b x → AppendsOrFails r b c y
    → AppendsOrFails r a c (x ++ y)
appends_or_fails_append (Ok value) a b c x y first more = appends_all_append a b c x y first more
appends_or_fails_append (Err why) a b c x y first more = appends_prefix_append a b c x y first more

pub appends_or_fails_after_byte : {T : Type 0} (r : Result T io.Error) (a b c : SinkView) (x : List ℕ) (byte : ℕ) (z : List ℕ)
    → AppendsAll a b (x ++ byte ∷ [])
    → AppendsOrFails r b c z → AppendsOrFails r a c (x ++ byte ∷ z)
appends_or_fails_after_byte r a b c x byte z first more =
    rw (← append_assoc x (byte ∷ []) z) (appends_or_fails_append r a b c (x ++ byte ∷ []) z first more)

-- an append whose result is dropped
pub appends_all_or_fails : {T : Type 0} (r : Result T io.Error) (a b : SinkView) (x : List ℕ) → AppendsOrFails r a b x
    → AppendsAll a b x ⊎ FailsToAppend a b x
appends_all_or_fails (Ok value) a b x all = inl all
appends_all_or_fails (Err cause) a b x part = inr (cause, part)

-- an append to a sink with more room is an append to the sink before it had that room
pub appends_with_more_room : (a b c : SinkView) (x : List ℕ) → a.held ≡ b.held → a.room ≤ b.room → AppendsAll b c x → AppendsAll a c x
appends_with_more_room a b c x same less write_bytes = record { held = rw same write_bytes.held; room = omega (arith, less, write_bytes.room) }

pub prefix_with_more_room : {e : io.Error} (a b c : SinkView) (x : List ℕ) → a.held ≡ b.held → a.room ≤ b.room → AppendsPrefix b c x e → AppendsPrefix a c x e
prefix_with_more_room a b c x same less part =
    record {
      prefix = part.prefix;
      rest = part.rest;
      joined = part.joined;
      missing = part.missing;
      held = rw same part.held;
      short = omega (arith, less, part.short);
      of_kind = part.of_kind;
    }

-- ---- a writer that accepts the remaining bytes

pub rest_len_pos : (rest : List ℕ) → false ≡ (length rest == 0) → 0 < length rest
rest_len_pos [] test = absurd (cc)
rest_len_pos (first ∷ rest) test = omega arith

pub rest_nil : (rest : List ℕ) → true ≡ (length rest == 0) → rest ≡ []
rest_nil [] test = refl
rest_nil (first ∷ rest) test = absurd (omega (arith, eqb-true (length (first ∷ rest)) 0 (sym test)))

-- a write of no byte keeps the known bytes
pub keeps_nil : (here after : Option (List ℕ)) (count : ℕ) (rest : List ℕ) → count ≡ 0 → Appends here after (take count rest) → Keeps here after
keeps_nil None after count rest none held = tt
keeps_nil (Some a) None count rest none held = absurd held
keeps_nil (Some a) (Some b) count rest none held = (rw none at held) ∙ append-nil a

-- a writer that accepts no more of the bytes has a proper prefix of them
pub writer_prefix : {e : io.Error} (first here after : Option (List ℕ)) (bytes head rest : List ℕ) → bytes ≡ head ++ rest → 0 < length rest
    → Appends first here head → Keeps here after → AppendsPrefix (writer_view first) (writer_view after) bytes e
writer_prefix first here after bytes head rest joined missing held kept =
    record {
      prefix = head;
      rest = rest;
      joined = joined;
      missing = missing;
      held = Appends-kept first here after head held kept;
      short = omega (arith, missing, ap length joined, length-append head rest);
      of_kind = tt;
    }

-- a writer has all the bytes if none remain
pub writer_appends : (first here : Option (List ℕ)) (bytes head rest : List ℕ) → bytes ≡ head ++ rest → rest ≡ [] → Appends first here head
    → AppendsAll (writer_view first) (writer_view here) bytes
writer_appends first here bytes head rest joined none held =
    let entire : bytes ≡ head = joined ∙ ap (λ (it : List ℕ). head ++ it) none ∙ append-nil head in
    record { held = rw entire held; room = omega arith }
