-- The ids of the empty tree and the empty blob, by computation.
use Rattle.std.proofs.Common.{◌≡◌, [], ◌∷◌, refl}
use Rattle.std.specs.Fmt.{digits}
use Rattle.sha1.specs.Sha1 as sha1
use Rattle.sha2.specs.Sha256 as sha256
use Rattle.gixobj_hash.specs.Hash.{id_of}
use Rattle.gixobj_hash.specs.declared.hash.kind.Kind.TheVariants as hash
use Rattle.gixobj_hash.specs.declared.hash.object_id.ObjectId.TheVariants as id
use Rattle.gixobj_hash.specs.declared.kind.Kind.TheVariants.{Blob, Tree}

pub sha1_empty_tree_id : id_of hash.Sha1 Tree [] ≡ id.Sha1
    (75 ∷ 130 ∷ 93 ∷ 198 ∷ 66 ∷ 203 ∷ 110 ∷ 185 ∷ 160 ∷ 96 ∷ 229 ∷ 75 ∷ 248 ∷ 214 ∷ 146 ∷ 136 ∷ 251 ∷ 238 ∷ 73 ∷ 4 ∷ [])
unfolding digits sha1.first_words sha1.schedule sha1.rounds sha1.compress sha1.hash_after sha1.digest_bytes sha1.sha1
sha1_empty_tree_id = refl

pub sha256_empty_tree_id : id_of hash.Sha256 Tree [] ≡ id.Sha256
    (110 ∷ 241 ∷ 155 ∷ 65 ∷ 34 ∷ 92 ∷ 83 ∷ 105 ∷ 241 ∷ 193 ∷ 4 ∷ 212 ∷ 93 ∷ 141 ∷ 133 ∷ 239 ∷ 169 ∷ 176 ∷ 87 ∷ 181 ∷ 59 ∷ 20 ∷ 180 ∷ 185 ∷ 185 ∷ 57 ∷ 221 ∷ 116
    ∷ 222 ∷ 204 ∷ 83 ∷ 33 ∷ [])
unfolding digits sha256.first_words sha256.schedule sha256.rounds sha256.compress sha256.hash_after sha256.digest_bytes sha256.sha256
sha256_empty_tree_id = refl

pub sha1_empty_blob_id : id_of hash.Sha1 Blob [] ≡ id.Sha1
    (230 ∷ 157 ∷ 226 ∷ 155 ∷ 178 ∷ 209 ∷ 214 ∷ 67 ∷ 75 ∷ 139 ∷ 41 ∷ 174 ∷ 119 ∷ 90 ∷ 216 ∷ 194 ∷ 228 ∷ 140 ∷ 83 ∷ 145 ∷ [])
unfolding digits sha1.first_words sha1.schedule sha1.rounds sha1.compress sha1.hash_after sha1.digest_bytes sha1.sha1
sha1_empty_blob_id = refl

pub sha256_empty_blob_id : id_of hash.Sha256 Blob [] ≡ id.Sha256
    (71 ∷ 58 ∷ 15 ∷ 76 ∷ 59 ∷ 232 ∷ 169 ∷ 54 ∷ 129 ∷ 162 ∷ 103 ∷ 227 ∷ 177 ∷ 233 ∷ 167 ∷ 220 ∷ 218 ∷ 17 ∷ 133 ∷ 67 ∷ 111 ∷ 225 ∷ 65 ∷ 247 ∷ 116 ∷ 145 ∷ 32 ∷ 163
    ∷ 3 ∷ 114 ∷ 24 ∷ 19 ∷ [])
unfolding digits sha256.first_words sha256.schedule sha256.rounds sha256.compress sha256.hash_after sha256.digest_bytes sha256.sha256
sha256_empty_blob_id = refl
