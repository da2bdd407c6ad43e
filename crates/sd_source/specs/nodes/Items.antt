-- What the nodes of a list ask of its items: the line of each, which containers it reads and which it writes, and what stands in it.
use Rattle.std.specs.Prelude.{ℕ, List, Option}

-- a name, as its bytes
abbrev pub Name : Type 0
Name = List ℕ

mutual
  -- an item of a state or of a scope. To take is to read; to resolve and to push are to write
  pub data Item : Type 0 where
    -- a statement that is no item, as a declaration
    none : (line : ℕ) → Item
    -- a tasklet, a copy or a reduction, or a call of a function, whose graph it then holds
    single : (line : ℕ) → (called : Option Name) → (reads : List Name) → (writes : List Name) → Item
    -- a scope, with the containers that are its own
    map_scope : (line : ℕ) → (own : List Name) → (body : Items) → Item
    consume_scope : (line : ℕ) → (stream : Name) → (own : List Name) → (body : Items) → Item

  -- items in order
  pub data Items : Type 0 where
    no_item : Items
    and_item : Item → Items → Items
