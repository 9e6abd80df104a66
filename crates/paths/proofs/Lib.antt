pub mod RunsAlike
