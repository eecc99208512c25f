-- Bytes tie in a comparison if and only if they are equal; used by the proofs of `name_order`, of searches and of files.
use Rattle.std.proofs.Common.{◌≡◌, ℕ, List, ap, ◌∙◌, Equal}
use Rattle.std.specs.Cmp.Lexicographic.{bytes_decides, slice_cmp, texts_ties}
use Rattle.std.specs.Ordering.{is_eq, nat_cmp}
use Rattle.std.proofs.lemmas.Cmp.{nat_list_cmp_total, tied_itself}

pub eq_of_slice_cmp_equal : (xs ys : List ℕ) → slice_cmp nat_cmp xs ys ≡ Equal → xs ≡ ys
eq_of_slice_cmp_equal xs ys e = (bytes_decides xs ys).0 (texts_ties xs ys ∙ ap is_eq e)

pub slice_cmp_equal_of_eq : (xs ys : List ℕ) → xs ≡ ys → slice_cmp nat_cmp xs ys ≡ Equal
slice_cmp_equal_of_eq xs ys e = rw e (tied_itself nat_list_cmp_total ys)
