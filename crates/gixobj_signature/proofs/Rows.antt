-- Examples of literal keys and of signatures with carriage returns, computed from the definitions.
use Rattle.std.proofs.Common.{◌≡◌, None, Some, codes, refl}
use Rattle.bstr.proofs.Computing.{computing}
use Rattle.gixobj_signature.specs.Signing.{literal_key, without_returns}

literal_key_after_prefix : literal_key (codes "key::ssh-rsa A") ≡ Some (codes "ssh-rsa A")
unfolding computing
literal_key_after_prefix = refl

literal_key_of_ssh_key : literal_key (codes "ssh-ed25519 A") ≡ Some (codes "ssh-ed25519 A")
unfolding computing
literal_key_of_ssh_key = refl

no_literal_key_of_path : literal_key (codes "keys/signing") ≡ None
unfolding computing
no_literal_key_of_path = refl

-- the return directly before a newline is removed, and each other one is unchanged
without_returns_before_newlines : without_returns (codes "A\r\nB\rC\r\r\n\r") ≡ codes "A\nB\rC\r\n\r"
unfolding computing
without_returns_before_newlines = refl
