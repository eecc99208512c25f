-- The findings about a tag have messages about tags alone.
use Rattle.std.proofs.Common.{◌≡◌, ◌≢◌, ◌∷◌, ℕ, Bool, true, false, [], List, Ok, Err, Some, None, inl, inr, sym, subst, arith}
use Rattle.std.proofs.lemmas.List.Elements.{All-cons, All-nil}
use Rattle.std.specs.Prelude.{Result, codes, if◌then◌else◌}
use Rattle.gixobj_hash.specs.ByteStrings.{IsByteFree}
use Rattle.gixobj_hash.specs.HeaderFormat.{BeginsWithField, BeginsWithNoField}
use Rattle.gixobj_hash.specs.Kind.{kind_name}
use Rattle.gixobj_hash.specs.declared.hash.kind.Kind.{Kind}
use Rattle.gixobj_fsck.specs.Headers.{HeaderPart}
use Rattle.gixobj_fsck.specs.Lines.{BeginsWithName, IdLine}
use Rattle.gixobj_fsck_messages.specs.Severities.{counts_as_error}
use Rattle.gixobj_fsck_messages.specs.declared.finding.Finding.{Finding}
use Rattle.gixobj_fsck_messages.specs.declared.message.Message.{Message}
use Rattle.gixobj_fsck_messages.specs.declared.message.Message.TheVariants as message
use Rattle.gixobj_fsck_messages.specs.declared.severity.Severity.{Severity}
use Rattle.gixobj_fsck_findings.specs.Checks.{AndThen, EndsAtFault, offset_of, rest_after}
use Rattle.gixobj_fsck_findings.specs.TagChecks.{ExtraCheck, NameCheck, NamesCheck, TaggerCheck, TypeCheck}
use Rattle.gixobj_fsck_object_laws.specs.Reported.{HaveMessagesOfTags, IsAboutActors, IsAboutTags}
use Rattle.gixobj_fsck_object_laws.proofs.Ended.{no_sound_header, unended_field, unended_last}
use Rattle.gixobj_fsck_object_laws.proofs.Kept.{AreOf, Keeps, KeepsAt, fault_of_actor, keeps_and_then, keeps_ends, keeps_header, keeps_listed, keeps_same}

about_actors : (it : Message) → IsAboutActors it → IsAboutTags it
about_actors message.MissingNameBeforeEmail is = tt
about_actors message.BadName is = tt
about_actors message.MissingEmail is = tt
about_actors message.MissingSpaceBeforeEmail is = tt
about_actors message.BadEmail is = tt
about_actors message.MissingSpaceBeforeDate is = tt
about_actors message.ZeroPaddedDate is = tt
about_actors message.BadDateOverflow is = tt
about_actors message.BadDate is = tt
about_actors message.BadTimezone is = tt
about_actors it is = absurd is

object_fault : (kind : Kind) (input : List ℕ) (fault : Message)
    → IdLine (codes "object") kind message.MissingObject message.BadObjectSha1 input (Err fault) → IsAboutTags fault
object_fault kind input fault (inl a) = subst IsAboutTags (sym a.1) tt
object_fault kind input fault (inr a) = subst IsAboutTags (sym a.2) tt

-- a line of this name that begins ends in a newline
abbrev pub IsEnded : List ℕ → List ℕ → Type 0
IsEnded name input = BeginsWithName name input → BeginsWithNoField name input → ⊥

keeps_type : (severity : Message → Severity) (object input : List ℕ) → IsEnded (codes "type") input
    → KeepsAt IsAboutTags (TypeCheck severity object) input
keeps_type severity object input ended before after outcome (inl (fault, inl a, same, ends)) are =
    keeps_listed IsAboutTags severity fault (offset_of object input) before after same (subst IsAboutTags (sym a.1) tt) are
keeps_type severity object input ended before after outcome (inl (fault, inr a, same, ends)) are = absurd (ended a.0 a.1)
keeps_type severity object input ended before after outcome (inr (inl a)) are = keeps_same IsAboutTags before after a.3 are
keeps_type severity object input ended before after outcome (inr (inr a)) are =
    keeps_listed IsAboutTags severity message.BadType (offset_of object input) before after a.4 tt are

keeps_name : (severity : Message → Severity) (object input : List ℕ) → IsEnded (codes "tag") input → KeepsAt IsAboutTags (NameCheck severity object) input
keeps_name severity object input ended before after outcome (inl (fault, inl a, same, ends)) are =
    keeps_listed IsAboutTags severity fault (offset_of object input) before after same (subst IsAboutTags (sym a.1) tt) are
keeps_name severity object input ended before after outcome (inl (fault, inr a, same, ends)) are = absurd (ended a.0 a.1)
keeps_name severity object input ended before after outcome (inr (inl a)) are = keeps_same IsAboutTags before after a.4 are
keeps_name severity object input ended before after outcome (inr (inr a)) are =
    keeps_listed IsAboutTags severity message.BadTagName (offset_of object input) before after a.4 tt are

keeps_tagger : (severity : Message → Severity) (object : List ℕ) → Keeps IsAboutTags (TaggerCheck severity object)
keeps_tagger severity object input before after outcome (inl a) are =
    keeps_listed IsAboutTags severity message.MissingTaggerEntry (offset_of object input) before after a.1 tt are
keeps_tagger severity object input before after outcome (inr (actor, rest, joined, line, is, inl a)) are = keeps_same IsAboutTags before after a.2 are
keeps_tagger severity object input before after outcome (inr (actor, rest, joined, line, is, inr a)) are =
    keeps_listed IsAboutTags severity a.0 (offset_of object input) before after a.2 (about_actors a.0 (fault_of_actor actor a.0 a.1)) are

keeps_extra : (severity : Message → Severity) (object : List ℕ) → Keeps IsAboutTags (ExtraCheck severity object)
keeps_extra severity object input before after outcome (ends, inl a) are = keeps_same IsAboutTags before after a.1 are
keeps_extra severity object input before after outcome (ends, inr a) are =
    keeps_listed IsAboutTags severity message.ExtraHeaderEntry (offset_of object input) before after a.1 tt are

keeps_names : (severity : Message → Severity) (object input : List ℕ) → IsEnded (codes "tag") input → KeepsAt IsAboutTags (NamesCheck severity object) input
keeps_names severity object input ended before after outcome (inl a) are = keeps_name severity object input ended before after None a.0 are
keeps_names severity object input ended before after outcome (inr a) are =
    keeps_and_then IsAboutTags (TaggerCheck severity object) (ExtraCheck severity object) (keeps_tagger severity object) (keeps_extra severity object)
    a.0 a.1 after outcome a.3 (keeps_name severity object input ended before a.1 (Some a.0) a.2 are)

-- ---- ends of lines

free_object : IsByteFree 10 (codes "object")
free_object = free6 111 98 106 101 99 116 (λ e. omega (arith, e)) (λ e. omega (arith, e)) (λ e. omega (arith, e)) (λ e. omega (arith, e))
    (λ e. omega (arith, e)) (λ e. omega (arith, e))
  where
    cons : (byte : ℕ) (bytes : List ℕ) → byte ≢ 10 → IsByteFree 10 bytes → IsByteFree 10 (byte ∷ bytes)
    cons = All-cons (λ it. it ≢ 10)

    free6 : (a b c d e f : ℕ) → a ≢ 10 → b ≢ 10 → c ≢ 10 → d ≢ 10 → e ≢ 10 → f ≢ 10 → IsByteFree 10 (a ∷ b ∷ c ∷ d ∷ e ∷ f ∷ [])
    free6 a b c d e f pa pb pc pd pe pf = cons a (b ∷ c ∷ d ∷ e ∷ f ∷ []) pa (cons b (c ∷ d ∷ e ∷ f ∷ []) pb (cons c (d ∷ e ∷ f ∷ []) pc
        (cons d (e ∷ f ∷ []) pd (cons e (f ∷ []) pe (cons f [] pf (All-nil (λ it. it ≢ 10)))))))

free_type : IsByteFree 10 (codes "type")
free_type = free4 116 121 112 101 (λ e. omega (arith, e)) (λ e. omega (arith, e)) (λ e. omega (arith, e)) (λ e. omega (arith, e))
  where
    cons : (byte : ℕ) (bytes : List ℕ) → byte ≢ 10 → IsByteFree 10 bytes → IsByteFree 10 (byte ∷ bytes)
    cons = All-cons (λ it. it ≢ 10)

    free4 : (a b c d : ℕ) → a ≢ 10 → b ≢ 10 → c ≢ 10 → d ≢ 10 → IsByteFree 10 (a ∷ b ∷ c ∷ d ∷ [])
    free4 a b c d pa pb pc pd = cons a (b ∷ c ∷ d ∷ []) pa (cons b (c ∷ d ∷ []) pb (cons c (d ∷ []) pc (cons d [] pd (All-nil (λ it. it ≢ 10)))))

free_tag : IsByteFree 10 (codes "tag")
free_tag = All-cons (λ it. it ≢ 10) 116 (97 ∷ 103 ∷ []) (λ e. omega (arith, e)) (All-cons (λ it. it ≢ 10) 97 (103 ∷ []) (λ e. omega (arith, e))
    (All-cons (λ it. it ≢ 10) 103 [] (λ e. omega (arith, e)) (All-nil (λ it. it ≢ 10))))

-- the line of the type ends after a sound header
ended_type : (object hex rest : List ℕ) → HeaderPart object (Ok object) → BeginsWithField (codes "object") object hex rest → IsEnded (codes "type") rest
ended_type object hex rest header field begins none =
    no_sound_header object object header (unended_field 111 (98 ∷ 106 ∷ 101 ∷ 99 ∷ 116 ∷ []) object hex rest free_object field
    (unended_last 116 (121 ∷ 112 ∷ 101 ∷ []) rest free_type begins none))

-- the line of the name ends after a sound header
ended_name : (object hex middle value rest : List ℕ) → HeaderPart object (Ok object) → BeginsWithField (codes "object") object hex middle
    → BeginsWithField (codes "type") middle value rest → IsEnded (codes "tag") rest
ended_name object hex middle value rest header first second begins none =
    no_sound_header object object header (unended_field 111 (98 ∷ 106 ∷ 101 ∷ 99 ∷ 116 ∷ []) object hex middle free_object first
    (unended_field 116 (121 ∷ 112 ∷ 101 ∷ []) middle value rest free_type second (unended_last 116 (97 ∷ 103 ∷ []) rest free_tag begins none)))

-- the line of the type comes if the check goes on
type_of_check : (severity : Message → Severity) (object input : List ℕ) (before after : List Finding) (rest : List ℕ)
    → TypeCheck severity object input before after (Some rest) → (value : List ℕ) × BeginsWithField (codes "type") input value rest
type_of_check severity object input before after rest (inl (fault, is, same, ends)) = absurd (cc ends)
type_of_check severity object input before after rest (inr (inl a)) =
    let e = a.4 in let same : a.1 ≡ rest = cc e in (kind_name a.0, subst (λ (it : List ℕ). BeginsWithField (codes "type") input (kind_name a.0) it) same a.2)
type_of_check severity object input before after rest (inr (inr a)) =
    let same : a.1 ≡ rest = goes_on a.1 rest a.5 in (a.0, subst (λ (it : List ℕ). BeginsWithField (codes "type") input a.0 it) same a.2)
  where
    go : (x y : List ℕ) (test : Bool) → Some y ≡ (if test then None else Some x) → x ≡ y
    go x y true same = absurd (cc same)
    go x y false same = cc same

    goes_on : (x y : List ℕ) → Some y ≡ rest_after severity message.BadType x → x ≡ y
    goes_on x y same = go x y (counts_as_error (severity message.BadType)) same

-- ---- tags

-- the checks after the line of the object
after_object : (severity : Message → Severity) (object hex input : List ℕ) (before after : List Finding) → HeaderPart object (Ok object)
    → BeginsWithField (codes "object") object hex input
    → AndThen (TypeCheck severity object) (NamesCheck severity object) input before after None → AreOf IsAboutTags before → AreOf IsAboutTags after
after_object severity object hex input before after header field (inl a) are =
    keeps_type severity object input (ended_type object hex input header field) before after None a.0 are
after_object severity object hex input before after header field (inr a) are =
    let typed = type_of_check severity object input before a.1 a.0 a.2 in
    let middle = keeps_type severity object input (ended_type object hex input header field) before a.1 (Some a.0) a.2 are in
    keeps_names severity object a.0 (ended_name object hex input typed.0 a.0 header field typed.1) a.1 after None a.3 middle

-- the line of the object
abbrev pub ObjectLine : Kind → List ℕ → Result (List ℕ) Message → Type 0
ObjectLine kind = IdLine (codes "object") kind message.MissingObject message.BadObjectSha1

-- the checks after the header
after_header : (severity : Message → Severity) (kind : Kind) (object : List ℕ) (before after : List Finding) → HeaderPart object (Ok object)
    → AndThen (EndsAtFault severity object (ObjectLine kind)) (AndThen (TypeCheck severity object) (NamesCheck severity object))
    object before after None → AreOf IsAboutTags before → AreOf IsAboutTags after
after_header severity kind object before after header (inl a) are =
    keeps_ends IsAboutTags severity object (ObjectLine kind) (object_fault kind) object before after None a.0 are
after_header severity kind object before after header (inr (rest, middle, inl a, checked)) are =
    let e = a.3 in
    let same : a.0 ≡ rest = cc e in
    let field : BeginsWithField (codes "object") object a.1.0 rest = subst (λ (it : List ℕ). BeginsWithField (codes "object") object a.1.0 it) same a.1.1.0 in
    after_object severity object a.1.0 rest middle after header field checked (keeps_same IsAboutTags before middle a.2 are)
after_header severity kind object before after header (inr (rest, middle, inr a, checked)) are = let e = a.3 in absurd (cc e)

-- a check of a tag lists messages about tags alone
pub have_messages_of_tags : (severity : Message → Severity) (kind : Kind) (tag : List ℕ) → HaveMessagesOfTags severity kind tag
have_messages_of_tags severity kind tag findings (inl a) =
    keeps_header IsAboutTags severity tt tt tag [] findings None a.0 (All-nil (λ (it : Finding). IsAboutTags it.message))
have_messages_of_tags severity kind tag findings (inr (start, middle, inl header, checked)) =
    let e = header.2 in
    let same : start ≡ tag = cc e in
    let are = keeps_same IsAboutTags [] middle header.1 (All-nil (λ (it : Finding). IsAboutTags it.message)) in
    after_header severity kind tag middle findings header.0
    (subst (λ (it : List ℕ). AndThen (EndsAtFault severity tag (ObjectLine kind)) (AndThen (TypeCheck severity tag) (NamesCheck severity tag))
    it middle findings None) same checked) are
have_messages_of_tags severity kind tag findings (inr (start, middle, inr header, checked)) = let e = header.5 in absurd (cc e)
