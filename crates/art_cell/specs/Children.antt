-- Child words: what a link is written as where a cell names another.
use Rattle.std.specs.Prelude.{ℕ, ◌+◌, ◌*◌, ◌/◌, ◌%◌, ◌^◌, ◌==◌, nat_lt, if◌then◌else◌, Option, Some, None}
use Rattle.art_cell.specs.declared.cells.Link.{Link}
use Rattle.art_cell.specs.declared.cells.Link.TheVariants.{Leaf as leaf, Node as node}
use Rattle.art_cell.specs.declared.cells.Layout.{Layout}
use Rattle.art_cell.specs.declared.cells.Layout.TheVariants.{Node4, Node16, Node48, Node256}
use Rattle.art_cell.specs.declared.cells.Pool.{Pool}
use Rattle.art_cell.specs.declared.cells.Pool.TheVariants.{Leaves, N4, N16, N48, N256}

-- the leaf or the node with this number
abbrev pub link_in_pool : Pool → ℕ → Link
link_in_pool Leaves number = leaf number
link_in_pool N4 number = node (record { layout = Node4; number = number })
link_in_pool N16 number = node (record { layout = Node16; number = number })
link_in_pool N48 number = node (record { layout = Node48; number = number })
link_in_pool N256 number = node (record { layout = Node256; number = number })

abbrev pub number_of : Link → ℕ
number_of (leaf number) = number
number_of (node n) = n.number

abbrev pub code_of_layout : Layout → ℕ
code_of_layout Node4 = 2
code_of_layout Node16 = 3
code_of_layout Node48 = 4
code_of_layout Node256 = 5

-- a leaf is 1, a node 2 to 5 by its layout
abbrev pub code_of : Link → ℕ
code_of (leaf number) = 1
code_of (node n) = code_of_layout n.layout

-- a child word is never 0, which names no child
abbrev pub child_word : Link → ℕ
child_word c = 8 * number_of c + code_of c

-- the link with this code and number
abbrev pub coded : ℕ → ℕ → Option Link
coded code number =
    if code == 1 then Some (link_in_pool Leaves number)
    else if code == 2 then Some (link_in_pool N4 number)
    else if code == 3 then Some (link_in_pool N16 number)
    else if code == 4 then Some (link_in_pool N48 number)
    else if code == 5 then Some (link_in_pool N256 number)
    else None

-- the link that a word names: none where its code is no link's, or its number takes more than 32 bits
abbrev pub link_of : ℕ → Option Link
link_of word = if nat_lt (word / 8) (2 ^ 32) then coded (word % 8) (word / 8) else None
