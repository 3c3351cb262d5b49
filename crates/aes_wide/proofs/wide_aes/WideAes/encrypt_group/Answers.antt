use Rattle.std.proofs.Common.{◌≡◌, ℕ, [], map, slice_index_or, refl}
use Rattle.std.specs.List.{range_with_len}
use Rattle.std.proofs.lemmas.List.FromFn.{fill_by_all}
use Rattle.aes_wide.proofs.wide_aes.WideAes.encrypt_group.Goals as goal

pub returns : goal.returns
returns c =
    let get = λ (i : ℕ). slice_index_or c.args.group.now i [] in
    let listed : c.args.group.now ≡ map get (range_with_len 0 8) = fill_by_all get c.args.group.now 8 [] c.requires (λ k _. refl) in
    rw (c.encrypt_eight-out.ensures, listed) refl
