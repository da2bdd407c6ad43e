-- The one mode of a nested graph's link is above each of the modes inside.
use Rattle.sd_race.proofs.cover_lemmas.Among.{among-filter}
use Rattle.std.specs.List.{filter, fold, Contains}
use Rattle.std.proofs.Common.{◌≡◌, ◌⊎◌, inl, inr, zero, suc, ℕ, ◌+◌, List, [], ◌∷◌, false, true, not, nat_eq, slice_get, Option, Some, None, refl, ap, sym, ◌∙◌, subst, arith}
use Rattle.std.proofs.lemmas.Bool.{cases_Bool, eq-eqb, ne_eqb}
use Rattle.std.proofs.lemmas.List.Elements.{Contains-append_left, Contains-append_right}
use Rattle.sd_num.specs.declared.resolution.Resolution.{Resolution}
use Rattle.sd_num.specs.declared.resolution.Resolution.TheVariants.{Sum, Product, Min, Max, And, Or, Xor, Last}
use Rattle.sd_range.proofs.Normal.{by_same}
use Rattle.sd_range.proofs.Members.{Contains-nil, Contains-first, Contains-cases, Contains-map}
use Rattle.sd_graph.specs.declared.link.Link.{Link}
use Rattle.sd_graph.specs.Mode.{Mode, Read, Write, Resolve, Push, Take, resolution_number, do_conflict, common_mode, joined_mode}
use Rattle.sd_graph.specs.Wiring.{Use, use_of, modes_on, link_uses, nested_uses}
use Rattle.sd_prop.specs.propagation.Accesses.{access_of, link_accesses, nested_accesses}
use Rattle.sd_race.specs.cover.Touched.{AllowsRead, AllowsWrite}

-- the resolution of a number
abbrev numbered : ℕ → Resolution
numbered zero = Sum
numbered (suc zero) = Product
numbered (suc (suc zero)) = Min
numbered (suc (suc (suc zero))) = Max
numbered (suc (suc (suc (suc zero)))) = And
numbered (suc (suc (suc (suc (suc zero))))) = Or
numbered (suc (suc (suc (suc (suc (suc zero)))))) = Xor
numbered (suc (suc (suc (suc (suc (suc (suc n))))))) = Last

numbered-number : (resolution : Resolution) → numbered (resolution_number resolution) ≡ resolution
numbered-number Sum = refl
numbered-number Product = refl
numbered-number Min = refl
numbered-number Max = refl
numbered-number And = refl
numbered-number Or = refl
numbered-number Xor = refl
numbered-number Last = refl

-- resolutions of one number are one
pub same_resolution : (a b : Resolution) → resolution_number a ≡ resolution_number b → a ≡ b
same_resolution a b same = sym (numbered-number a) ∙ ap numbered same ∙ numbered-number b

-- a mode is another, or that is Write
abbrev pub IsAbove : Mode → Mode → Type 0
IsAbove above mode = (mode ≡ above) ⊎ (above ≡ Write)

pub allows-read : (mode above : Mode) → IsAbove above mode → AllowsRead mode → AllowsRead above
allows-read mode above (inl same) allows = subst AllowsRead same allows
allows-read mode above (inr write) allows = subst AllowsRead (sym write) tt

pub allows-write : (mode above : Mode) (by : Option Resolution) → IsAbove above mode → AllowsWrite mode by → AllowsWrite above by
allows-write mode above by (inl same) allows = subst (λ m. AllowsWrite m by) same allows
allows-write mode above by (inr write) allows = subst (λ m. AllowsWrite m by) (sym write) tt

-- modes that do not conflict are one
same_mode : (mode other : Mode) → do_conflict mode other ≡ false → mode ≡ other
same_mode Read Read free = refl
same_mode Read Write free = cc
same_mode Read (Resolve b) free = cc
same_mode Read Push free = cc
same_mode Read Take free = cc
same_mode Write other free = cc
same_mode (Resolve a) Read free = cc
same_mode (Resolve a) Write free = cc
same_mode (Resolve a) (Resolve b) free =
    by_same (resolution_number a) (resolution_number b)
    (λ same. ap Resolve (same_resolution a b same))
    (λ other. (let taken : true ≡ false = sym (ap not (ne_eqb (resolution_number a) (resolution_number b) other)) ∙ free in cc))
same_mode (Resolve a) Push free = cc
same_mode (Resolve a) Take free = cc
same_mode Push Read free = cc
same_mode Push Write free = cc
same_mode Push (Resolve b) free = cc
same_mode Push Push free = refl
same_mode Push Take free = cc
same_mode Take other free = cc

common-left : (mode other : Mode) → IsAbove (common_mode mode other) mode
common-left mode other = elim (cases_Bool (do_conflict mode other)) [
  | inl conflict ↦ inr (rw conflict refl)
  | inr free ↦ inl (rw free refl)
]

common-right : (mode other : Mode) → IsAbove (common_mode mode other) other
common-right mode other = elim (cases_Bool (do_conflict mode other)) [
  | inl conflict ↦ inr (rw conflict refl)
  | inr free ↦ inl (sym (same_mode mode other free) ∙ rw free refl)
]

-- above one above
above-above : (mode middle above : Mode) → IsAbove middle mode → IsAbove above middle → IsAbove above mode
above-above mode middle above (inl same) (inl same') = inl (same ∙ same')
above-above mode middle above (inr write) (inl same) = inr (sym same ∙ write)
above-above mode middle above first (inr write) = inr write

-- many modes in one are above the first and each other
fold-first : (mode : Mode) (modes : List Mode) → IsAbove (fold common_mode mode modes) mode
fold-first mode [] = inl refl
fold-first mode (other ∷ modes) = above-above mode (common_mode mode other) (fold common_mode (common_mode mode other) modes) (common-left mode other) (fold-first (common_mode mode other) modes)

fold-each : (mode : Mode) (modes : List Mode) (one : Mode) → Contains modes one → IsAbove (fold common_mode mode modes) one
fold-each mode [] one member = absurd (Contains-nil one member)
fold-each mode (other ∷ modes) one member = elim (Contains-cases other modes one member) [
  | inl is ↦ above-above one (common_mode mode other) (fold common_mode (common_mode mode other) modes) (subst (IsAbove (common_mode mode other)) is (common-right mode other)) (fold-first (common_mode mode other) modes)
  | inr later ↦ fold-each (common_mode mode other) modes one later
]

-- the joined mode is above each
pub joined-above : (modes : List Mode) (one : Mode) → Contains modes one → (above : Mode) × IsAbove above one × (joined_mode modes ≡ Some above)
joined-above [] one member = absurd (Contains-nil one member)
joined-above (mode ∷ modes) one member = (
  fold common_mode mode modes,
  elim (Contains-cases mode modes one member) [
    | inl is ↦ subst (IsAbove (fold common_mode mode modes)) is (fold-first mode modes)
    | inr later ↦ fold-each mode modes one later
  ],
  refl,
)

-- the mode of a use is one of its container's modes
pub mode_on : (uses : List Use) (number : ℕ) (use' : Use) → number ≡ use'.container → Contains uses use' → Contains (modes_on number uses) use'.mode
mode_on uses number use' same member =
    Contains-map (λ (u : Use). u.mode) (filter (λ (u : Use). nat_eq u.container number) uses) use'
    (among-filter (λ (u : Use). nat_eq u.container number) uses use' member (eq-eqb use'.container number (sym same)))

-- the link of a parameter that is used has an access, and a use, in a mode above
abbrev IsLinkAbove : ℕ → List Use → List Link → ℕ → Link → Mode → Type 0
IsLinkAbove node inner links first link mode = (above : Mode) × IsAbove above mode × Contains (nested_accesses node inner first links) (access_of node above link) × Contains (nested_uses inner first links) (use_of above link)

first-link : (node : ℕ) (inner : List Use) (first : ℕ) (link : Link) (links : List Link) (above : Mode) (joined : Option Mode) → joined_mode (modes_on first inner) ≡ Some above →
    Contains (nested_accesses node inner first (link ∷ links)) (access_of node above link) × Contains (nested_uses inner first (link ∷ links)) (use_of above link)
first-link node inner first link links above joined is = (
  Contains-append_left (link_accesses node link (joined_mode (modes_on first inner))) (nested_accesses node inner (suc first) links) (access_of node above link)
      (subst (λ mode. Contains (link_accesses node link mode) (access_of node above link)) (sym is) (Contains-first (access_of node above link) [])),
  Contains-append_left (link_uses link (joined_mode (modes_on first inner))) (nested_uses inner (suc first) links) (use_of above link)
      (subst (λ mode. Contains (link_uses link mode) (use_of above link)) (sym is) (Contains-first (use_of above link) [])),
)

pub link-above : (node : ℕ) (inner : List Use) (links : List Link) (first place : ℕ) (link : Link) (use' : Use) → use'.container ≡ first + place → slice_get links place ≡ Some link → Contains inner use' → IsLinkAbove node inner links first link use'.mode
link-above node inner [] first place link use' is at used = cc
link-above node inner (other ∷ links) first zero link use' is at used =
    let here : first ≡ use'.container = omega (arith, is) in
    let same : other ≡ link = cc in
    let (above, is_above, joined) = joined-above (modes_on first inner) use'.mode (mode_on inner first use' here used) in
    let members = first-link node inner first other links above None joined in
    (above, is_above, subst (λ l. Contains (nested_accesses node inner first (other ∷ links)) (access_of node above l)) same members.0, subst (λ l. Contains (nested_uses inner first (other ∷ links)) (use_of above l)) same members.1)
link-above node inner (other ∷ links) first (suc place) link use' is at used =
    let mode = joined_mode (modes_on first inner) in
    let (above, is_above, member, member') = link-above node inner links (suc first) place link use' (omega (arith, is)) at used in
    (above, is_above, Contains-append_right (link_accesses node other mode) (nested_accesses node inner (suc first) links) (access_of node above link) member, Contains-append_right (link_uses other mode) (nested_uses inner (suc first) links) (use_of above link) member')
