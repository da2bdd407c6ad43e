-- What is read through links.
use Rattle.std.specs.Prelude.{ℤ, List, [], ◌∷◌, Option, Some, None}
use Rattle.sd_work.specs.Memory.{Memories}
use Rattle.sd_work.specs.Exit.{all_seen}
use Rattle.sd_graph.specs.Context.{Context, link_elements}
use Rattle.sd_graph.specs.declared.link.Link.{Link}

-- the values of a link before those of others, where all accesses are inside
abbrev pub before_others : Option (List ℤ) → Option (List (List ℤ)) → Option (List (List ℤ))
before_others None others = None
before_others (Some values) None = None
before_others (Some values) (Some others) = Some (values ∷ others)

-- the values of the elements of each link, in row order, where all accesses are inside
abbrev pub links_seen : Context → List Link → Memories → Option (List (List ℤ))
links_seen context [] memories = Some []
links_seen context (link ∷ links) memories = before_others (all_seen (link_elements context link) memories) (links_seen context links memories)
