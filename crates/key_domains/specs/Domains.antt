-- The numbers of the domains that find a key, as Android's `Domain` has them.
use Rattle.std.specs.Prelude.{ℕ}

abbrev pub domain_app : ℕ
domain_app = 0

abbrev pub domain_grant : ℕ
domain_grant = 1

abbrev pub domain_selinux : ℕ
domain_selinux = 2

abbrev pub domain_blob : ℕ
domain_blob = 3

abbrev pub domain_key_id : ℕ
domain_key_id = 4
