-- Working a wire's grade from the entries of a column, under any algebra, for any column whatever.
use Rattle.std.specs.Prelude.{◌≡◌, ℕ, List, [], ◌∷◌, map, length, take, slice_index_or}
use Rattle.algebras.specs.declared.algebra.Algebra.{Ghosts}
use Rattle.algebras.specs.declared.kind.Kind.{Kind}
use Rattle.algebras.specs.declared.kind.Kind.TheVariants.{Buffer, Inverter, And, Or, Xor, Nand, Nor, Xnor}
use Rattle.algebras.specs.Sums.{joined}
use Rattle.algebras.specs.Transient.{driven, zero_word}
use Rattle.nets.specs.Wires.{Plain, input, gate}
use Rattle.nets.specs.Transients.{transients}

-- How a gate joins the entries of two pins.
abbrev pub joins : {X G : Type 0} → Ghosts X G → X → Kind → G → G → G
joins L a Buffer x y = x
joins L a Inverter x y = x
joins L a And x y = L.products a x y
joins L a Or x y = L.sums a x y
joins L a Xor x y = L.exclusives a x y
joins L a Nand x y = L.products a x y
joins L a Nor x y = L.sums a x y
joins L a Xnor x y = L.exclusives a x y

-- What a gate makes of its joined pins.
abbrev pub gives : {X G : Type 0} → Ghosts X G → X → Kind → G → G
gives L a Buffer x = L.reads a x
gives L a Inverter x = L.complements a x
gives L a And x = x
gives L a Or x = x
gives L a Xor x = x
gives L a Nand x = L.complements a x
gives L a Nor x = L.complements a x
gives L a Xnor x = L.complements a x

-- The grade of a gate from its pins' entries, joined from the first.
abbrev pub gate_grade : {X G : Type 0} → Ghosts X G → X → Kind → List G → G
gate_grade L a k [] = L.grade a zero_word
gate_grade L a k (x ∷ xs) = gives L a k (joined (joins L a k) x xs)

-- Entry w of a column.
abbrev pub entry : {X G : Type 0} → Ghosts X G → X → List G → ℕ → G
entry L a column w = slice_index_or column w (L.grade a zero_word)

-- The entries of the wires that pins name.
abbrev pub entries : {X G : Type 0} → Ghosts X G → X → List G → List ℕ → List G
entries L a column ps = map (entry L a column) ps

-- The grade of a wire, worked from a column.
abbrev pub worked : {X G : Type 0} → Ghosts X G → X → List G → Plain → G
worked L a column (input b n) = L.grade a (driven b n)
worked L a column (gate k ps) = gate_grade L a k (entries L a column ps)

-- A column is kept for a net where its entries, one for each wire, are the grades of the wires' transients.
abbrev pub Kept : {X G : Type 0} → Ghosts X G → X → List Plain → List G → Type 0
Kept L a ws column = take (length ws) column ≡ map (L.grade a) (transients ws)
