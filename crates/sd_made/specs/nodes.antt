pub mod FewNodes
