-- Options that are mapped.
use Rattle.std.proofs.Common.{◌≡◌, IsSome, Some, None, Option, refl, ap}
use Rattle.std.specs.Option.{option_map}

-- mapped twice, by what the two come to
pub mapped : {X Y Z : Type 0} (f : X → Y) (g : Y → Z) (h : X → Z) (o : Option X) → ((x : X) → g (f x) ≡ h x) → option_map g (option_map f o) ≡ option_map h o
mapped f g h None e = refl
mapped f g h (Some x) e = ap Some (e x)

pub some_in : {X Y : Type 0} (v : X → Y) (o : Option X) → IsSome o → IsSome (option_map v o)
some_in v None some = some
some_in v (Some x) some = refl

pub some_out : {X Y : Type 0} (v : X → Y) (o : Option X) → IsSome (option_map v o) → IsSome o
some_out v None some = some
some_out v (Some x) some = refl
