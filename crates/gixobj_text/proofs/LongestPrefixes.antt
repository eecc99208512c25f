-- The longest prefix whose bytes pass a test: it step by step, its bytes, and its length.
use Rattle.std.proofs.Common.{◌+◌, ◌≡◌, ◌++◌, ◌∷◌, ◌∙◌, ap, arith, drop, length, refl, subst, suc, take, ℕ, Bool, true, false, cond, List, []}
use Rattle.std.proofs.lemmas.List.Elements.{All-cons, All-head, All-nil, All-tail}
use Rattle.std.specs.List.{AllPass, prefix_len, take_while}

pub drop_prefix_len_cons : (passes : ℕ → Bool) (byte : ℕ) (rest : List ℕ) (b : Bool) → passes byte ≡ b
    → drop (prefix_len passes (byte ∷ rest)) (byte ∷ rest) ≡ cond b (drop (prefix_len passes rest) rest) (byte ∷ rest)
drop_prefix_len_cons passes byte rest b is = ap (λ (c : Bool). drop (cond c (1 + prefix_len passes rest) 0) (byte ∷ rest)) is ∙ drop_prefix_len_cons_of_flag b
  where
    drop_prefix_len_cons_of_flag : (b : Bool) → drop (cond b (1 + prefix_len passes rest) 0) (byte ∷ rest) ≡ cond b (drop (prefix_len passes rest) rest)
        (byte ∷ rest)
    drop_prefix_len_cons_of_flag true = ap (λ (n : ℕ). drop n (byte ∷ rest))
        (let is : 1 + prefix_len passes rest ≡ suc (prefix_len passes rest) = omega arith in is)
    drop_prefix_len_cons_of_flag false = refl

take_while_all_pass_of_flag : (passes : ℕ → Bool) (byte : ℕ) (rest : List ℕ) (b : Bool) → passes byte ≡ b → AllPass passes (take_while passes rest)
    → AllPass passes (take (cond b (1 + prefix_len passes rest) 0) (byte ∷ rest))
take_while_all_pass_of_flag passes byte rest true is later =
    let one : suc (prefix_len passes rest) ≡ 1 + prefix_len passes rest = omega arith in
    subst (λ (n : ℕ). AllPass passes (take n (byte ∷ rest))) one
    (All-cons (λ it. passes it ≡ true) byte (take_while passes rest) is later)
take_while_all_pass_of_flag passes byte rest false is later = All-nil (λ it. passes it ≡ true)

pub take_while_all_pass : (passes : ℕ → Bool) (bytes : List ℕ) → AllPass passes (take_while passes bytes)
take_while_all_pass passes [] = All-nil (λ it. passes it ≡ true)
take_while_all_pass passes (byte ∷ rest) = take_while_all_pass_of_flag passes byte rest (passes byte) refl (take_while_all_pass passes rest)

pub prefix_len_append : (passes : ℕ → Bool) (prefix rest : List ℕ) → AllPass passes prefix → prefix_len passes rest ≡ 0
    → prefix_len passes (prefix ++ rest) ≡ length prefix
prefix_len_append passes [] rest all none = none
prefix_len_append passes (byte ∷ prefix) rest all none =
    let later : prefix_len passes (prefix ++ rest) ≡ length prefix =
    prefix_len_append passes prefix rest (All-tail (λ it. passes it ≡ true) byte prefix all) none in
    ap (λ (b : Bool). cond b (1 + prefix_len passes (prefix ++ rest)) 0) (All-head (λ it. passes it ≡ true) byte prefix all)
    ∙ (let is : 1 + prefix_len passes (prefix ++ rest) ≡ length (byte ∷ prefix) = omega arith in is)
